use Rattle.std.proofs.Common.{◌≡◌}
use Rattle.kp_race.proofs.racer.Field.produce_all.Given as goal

abbrev pub invariant-loop : goal.invariant-loop
invariant-loop g l = l.handed.batches ≡ l.initial.handed.batches
