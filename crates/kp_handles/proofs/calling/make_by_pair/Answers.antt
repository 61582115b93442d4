use Rattle.std.proofs.Common.{rules, sym, ap, subst, ◌∙◌}
use Rattle.std.specs.Prelude.{Result, Some, None}
use Rattle.std.specs.Global.{Box}
use Rattle.kp_types.specs.declared.refusal.Refusal.{Refusal}
use Rattle.kp_handles.specs.Called.{GiveCalled, done_of, made_of}
use Rattle.kp_handles.specs.Objects.{ObjectView, object_view}
use Rattle.kp_handles.specs.declared.misuse.Misuse.{Misuse}
use Rattle.kp_handles.proofs.Giving.{pair_made, pair_not_made}
use Rattle.kp_handles.proofs.calling.make_by_pair.Goals as goal
use Rattle.kp_handles.proofs.calling.make_by_pair.Goals.{in-Node, in-Caller, in_default-kind, in_default}

pub returns : goal.returns
returns g c = elim c.match-one.branch [
  | in-Node w ↦ elim w.match-other.branch [
    | in-Caller w' ↦
        let s = w'.make in
        subst (λ (r : Result (Result (Box ObjectView) Refusal) Misuse). GiveCalled g.Q.GivenByPair.held (g.Q.GivenByPair.gives c.args.call) (Some c.args.one.now) _ (Some c.args.other.now) _ None (made_of r) (done_of r))
        (sym (w.result-is ∙ w'.result-is))
        (pair_made g.Q.GivenByPair.held (g.Q.GivenByPair.gives c.args.call) c.args.one.now _ c.args.other.now _ w.in-Node.node s.new.node w'.in-Caller.caller.board.value w'.in-Caller.caller.pass s.new.pass
        (sym c.one.view_is ∙ ap (λ k. object_view k) w.in-Node.is) (ap (λ i. object_view i.kind) (w.one-inside-is ∙ w'.one-inside-is))
        (sym c.other.view_is ∙ ap (λ k. object_view k) w'.in-Caller.is) (w.other-is ∙ ap (λ i. object_view i.kind) w'.other-inside-is)
        s.result s.ensures.made s.ensures.same s.ensures.only)
    | in_default-kind w' ↦
        pair_not_made g.Q.GivenByPair.held (g.Q.GivenByPair.gives c.args.call) c.args.one.now _ c.args.other.now _ c.match-one.result (w.result-is ∙ w'.result-is)
        (ap (λ i. object_view i.kind) (w.one-inside-is ∙ w'.one-inside-is) ∙ ap (λ k. object_view k) (sym w.in-Node.is) ∙ c.one.view_is)
        (w.other-is ∙ ap (λ i. object_view i.kind) w'.other-inside-is ∙ c.other.view_is) (search rules)
  ]
  | in_default w ↦
      pair_not_made g.Q.GivenByPair.held (g.Q.GivenByPair.gives c.args.call) c.args.one.now _ c.args.other.now _ c.match-one.result w.result-is
      (ap (λ i. object_view i.kind) w.one-inside-is ∙ c.one.view_is) w.other-is (search rules)
]
