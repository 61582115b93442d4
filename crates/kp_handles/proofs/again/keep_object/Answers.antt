use Rattle.std.proofs.Common.{rules, sym, ap, ◌∙◌}
use Rattle.kp_handles.specs.Objects.{object_view}
use Rattle.kp_handles.proofs.LeftFacts.{kept_as, kept_by, no_place}
use Rattle.kp_handles.proofs.again.keep_object.Goals as goal
use Rattle.kp_handles.proofs.again.keep_object.Goals.{in-Left+else-len-from, in_default}

pub returns : goal.returns
returns g c = elim c.match-object.branch [
  | in-Left+else-len-from w ↦ kept_as c.args.bytes.now c.args.kept.now c.args.object.now _ c.match-object.result _ w.result-is
      (kept_by c.args.bytes.now c.args.kept.now c.args.object.now _ w.in-Left.nodes w.keep.new.self w.keep.result (sym c.object.view_is ∙ ap (λ k. object_view k) w.in-Left.is)
      (ap (λ i. object_view i.kind) w.object-inside-is) w.keep.ensures.kept w.keep.ensures.refused w.keep.ensures.same)
  | in_default w ↦ kept_as c.args.bytes.now c.args.kept.now c.args.object.now _ c.match-object.result _ w.result-is
      (no_place c.args.bytes.now c.args.kept.now c.args.object.now _ (ap (λ i. object_view i.kind) w.object-inside-is ∙ c.object.view_is) (search rules))
]
