use Rattle.std.proofs.Common.{◌≡◌, vec_len}
use Rattle.kp_race.proofs.race.shares_of.Given as goal

abbrev pub invariant-loop-node : goal.invariant-loop-node
invariant-loop-node g l = vec_len l.shares ≡ l.node-index
