use Rattle.std.proofs.Common.{ℕ, ◌++◌, List, [], ◌∷◌, ap, sym, ◌∙◌, arith}
use Rattle.std.proofs.lemmas.List.FromFn.{map-range_with_len_more}
use Rattle.kp_race.specs.declared.task.Task.{Task}
use Rattle.kp_race.specs.declared.task.Task.TheVariants.{Produce}
use Rattle.kp_race.proofs.task.tasks.Goals as goal

pub loop-number-preserved : goal.loop-number-preserved
loop-number-preserved c =
    let number = c.loop-number.number in
    let batches = c.args.plan.now.batches in
    c.in_ok-push.ensures.items
    ∙ ap (λ (s : List Task). s ++ Produce number batches ∷ []) c.loop-number.invariant
    ∙ sym (map-range_with_len_more (λ (n : ℕ). Produce n batches) 0 number number (omega arith))
