use Rattle.std.proofs.Common.{rules, Some, sym, ap, subst, ◌∙◌}
use Rattle.std.specs.Prelude.{Result}
use Rattle.kp_types.specs.declared.refusal.Refusal.{Refusal}
use Rattle.kp_replica.specs.declared.producing.Receipt.{Receipt}
use Rattle.kp_handles.specs.Handing.{HandedCalled}
use Rattle.kp_handles.specs.Objects.{object_view}
use Rattle.kp_handles.specs.declared.misuse.Misuse.{Misuse}
use Rattle.kp_handles.proofs.Bad.{handed_share, handed_kind}
use Rattle.kp_handles.proofs.producing.produce_shared.Goals as goal
use Rattle.kp_handles.proofs.producing.produce_shared.Goals.{in-Node, in-Caller, in_default-kind, in_default}

pub returns-clause-called : goal.returns-clause-called
returns-clause-called g c = elim c.match-one.branch [
  | in-Node w ↦ elim w.match-other.branch [
    | in-Caller w' ↦
        let s = w'.produce_share in
        subst (λ (r : Result (Result Receipt Refusal) Misuse). HandedCalled c.args.held.now.object (Some c.args.one.now) _ (Some c.args.other.now) (Some c.match-one.other) r)
        (sym (w.result-is ∙ w'.result-is))
        (handed_share c.args.held.now.object c.args.one.now _ c.args.other.now c.match-one.other w.in-Node.node s.new.node w'.in-Caller.caller.board.value w'.in-Caller.caller.pass s.new.pass s.result
        (sym c.one.view_is ∙ ap (λ k. object_view k) w.in-Node.is) (ap (λ i. object_view i.kind) (w.one-inside-is ∙ w'.one-inside-is))
        (sym c.other.view_is ∙ ap (λ k. object_view k) w'.in-Caller.is) (w.other-is ∙ ap (λ i. object_view i.kind) w'.other-inside-is)
        s.ensures.made s.ensures.same s.ensures.only)
    | in_default-kind w' ↦
        handed_kind c.args.held.now.object c.args.one.now _ c.args.other.now c.match-one.other c.match-one.result (w.result-is ∙ w'.result-is)
        (ap (λ i. object_view i.kind) (w.one-inside-is ∙ w'.one-inside-is) ∙ ap (λ k. object_view k) (sym w.in-Node.is) ∙ c.one.view_is)
        (w.other-is ∙ ap (λ i. object_view i.kind) w'.other-inside-is ∙ c.other.view_is) (search rules)
  ]
  | in_default w ↦
      handed_kind c.args.held.now.object c.args.one.now _ c.args.other.now c.match-one.other c.match-one.result w.result-is
      (ap (λ i. object_view i.kind) w.one-inside-is ∙ c.one.view_is) w.other-is (search rules)
]
