use Rattle.std.proofs.Common.{◌≤◌, ℕ, arith, subst, vec_len}
use Rattle.std.specs.Prelude.{sum_by}
use Rattle.kp_race.specs.Tasks.{most_receipts}
use Rattle.kp_race.proofs.Counts.{both_ok, most_of_plan, sum_within}
use Rattle.kp_race.proofs.race.run_all.Goals as goal

pub returns : goal.returns
returns g c =
    let jobs = c.in_ok-jobs.jobs in
    both_ok _ _ _ c.run_jobs.result (λ reached each few.
    subst (λ (most : ℕ). sum_by (λ one. vec_len one.receipts) reached.items ≤ most)
    (most_of_plan (λ job. job.task) c.args.plan.now jobs.items c.in_ok-jobs.ensures.all)
    (sum_within (λ job. most_receipts job.task) (λ one. vec_len one.receipts) jobs.items reached.items (omega (arith, each)) (λ k job one within. few k job one (omega arith))))
    c.run_jobs.ensures.each c.run_jobs.ensures.few
