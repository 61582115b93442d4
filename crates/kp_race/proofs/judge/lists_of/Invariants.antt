use Rattle.std.proofs.Common.{◌≡◌, map, vec_len}
use Rattle.std.specs.Prelude.{All}
use Rattle.kp_model.specs.Beginning.{Begins}
use Rattle.kp_race.specs.Agreement.{committed_as}
use Rattle.kp_race.proofs.judge.lists_of.Given as goal

abbrev pub invariant-loop-node : goal.invariant-loop-node
invariant-loop-node g l = record {
  each : vec_len l.lists ≡ l.node-index;
  seen : All (λ list. Begins list.items (map committed_as l.pass.seen)) l.lists.items;
}
