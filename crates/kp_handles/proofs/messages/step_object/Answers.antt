use Rattle.std.proofs.Common.{rules, refl, sym, ap, ◌∙◌}
use Rattle.kp_handles.specs.Objects.{object_view}
use Rattle.kp_handles.proofs.Posts.{met_as}
use Rattle.kp_handles.proofs.messages.step_object.Goals as goal
use Rattle.kp_handles.proofs.messages.step_object.Goals.{in-Node, in_default}

pub returns : goal.returns
returns g c = elim c.match-one.branch [
  | in-Node w ↦ met_as _ _ _ c.match-one.result _ w.result-is
      (w.in-Node.node, w.taken-left.new.node, c.args.sent.body, c.args.sent.pass, sym c.one.view_is ∙ ap (λ k. object_view k) w.in-Node.is, ap (λ i. object_view i.kind) w.one-inside-is, refl, w.taken-left.ensures)
  | in_default w ↦ met_as _ _ _ c.match-one.result _ w.result-is (refl, ap (λ i. object_view i.kind) w.one-inside-is ∙ c.one.view_is, refl, search rules)
]
