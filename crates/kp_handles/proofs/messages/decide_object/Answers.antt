use Rattle.std.proofs.Common.{rules, refl, sym, ap, ◌∙◌}
use Rattle.kp_handles.specs.Objects.{object_view}
use Rattle.kp_handles.proofs.Posts.{decided_as}
use Rattle.kp_handles.proofs.messages.decide_object.Goals as goal
use Rattle.kp_handles.proofs.messages.decide_object.Goals.{in-Caller, in_default}

pub returns : goal.returns
returns g c = elim c.match-one.branch [
  | in-Caller w ↦ decided_as _ _ _ c.match-one.result _ w.result-is
      (w.in-Caller.caller.board.value, w.in-Caller.caller.pass, w.decided-left.new.pass, c.args.sent.body, c.args.sent.pass, sym c.one.view_is ∙ ap (λ k. object_view k) w.in-Caller.is, ap (λ i. object_view i.kind) w.one-inside-is, refl, w.decided-left.ensures)
  | in_default w ↦ decided_as _ _ _ c.match-one.result _ w.result-is (refl, ap (λ i. object_view i.kind) w.one-inside-is ∙ c.one.view_is, refl, search rules)
]
