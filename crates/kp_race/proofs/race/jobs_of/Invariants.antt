use Rattle.std.proofs.Common.{◌≡◌, map}
use Rattle.kp_race.proofs.race.jobs_of.Given as goal

abbrev pub invariant-loop-task : goal.invariant-loop-task
invariant-loop-task g l = map (λ job. job.task) l.jobs.items ≡ l.yielded
