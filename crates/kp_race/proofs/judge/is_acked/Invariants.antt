use Rattle.kp_model.specs.Beginning.{Begins}
use Rattle.kp_race.proofs.judge.is_acked.Given as goal

abbrev pub invariant-loop-node : goal.invariant-loop-node
invariant-loop-node g l = Begins l.initial.pass.seen l.pass.seen
