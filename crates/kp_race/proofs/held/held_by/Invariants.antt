use Rattle.std.proofs.Common.{◌≡◌, ◌++◌, length, map}
use Rattle.kp_model.specs.Beginning.{Begins}
use Rattle.kp_model.specs.Run.{held}
use Rattle.kp_log.specs.Logged.{reaching}
use Rattle.kp_race.specs.Agreement.{committed_as}
use Rattle.kp_race.proofs.held.held_by.Given as goal

abbrev pub invariant-loop-list : goal.invariant-loop-list
invariant-loop-list g l = record {
  same : l.node ≡ l.initial.node;
  read : l.list.items ++ map committed_as (reaching l.from (held l.node.node.state)) ≡ map committed_as (held l.node.node.state);
  seen : Begins l.initial.pass.seen l.pass.seen;
}

abbrev pub decreases-loop-list : goal.decreases-loop-list
decreases-loop-list g l = length (reaching l.from (held l.node.node.state))
