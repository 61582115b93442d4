use Rattle.std.proofs.Common.{rules, sym, ap, ◌∙◌}
use Rattle.std.specs.Prelude.{Some}
use Rattle.kp_handles.specs.Objects.{ObjectView}
use Rattle.kp_handles.proofs.Posts.{step_called}
use Rattle.kp_handles.proofs.messages.step.Goals as goal

pub returns-in-Some-left-clause-called : goal.returns-in-Some-left-clause-called
returns-in-Some-left-clause-called g c =
    let s = c.step_objects-left in
    step_called c.deref_mut.result.now s.new.one c.replace-came.result s.result.0 _ _ _ _ s.result.1 s.ensures
    (search rules) (search rules) (search rules)
    (c.put-in-Some-left.ensures.object ∙ ap (λ (v : ObjectView). Some v) c.replace.ensures.after ∙ sym c.in-Some-left.is)
