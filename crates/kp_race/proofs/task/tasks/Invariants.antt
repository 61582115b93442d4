use Rattle.std.proofs.Common.{◌≡◌, map}
use Rattle.std.specs.List.{range_with_len}
use Rattle.kp_race.specs.declared.task.Task.TheVariants.{Produce}
use Rattle.kp_race.proofs.task.tasks.Given as goal

abbrev pub invariant-loop-number : goal.invariant-loop-number
invariant-loop-number l = l.tasks.items ≡ map (λ number. Produce number l.plan.batches) (range_with_len 0 l.number)
