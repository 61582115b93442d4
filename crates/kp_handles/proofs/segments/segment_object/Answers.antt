use Rattle.std.proofs.Common.{rules, ◌≡◌, ◌∙◌, List, ap, refl, sym}
use Rattle.std.proofs.lemmas.Option.{slice_get_read, slice_get_past}
use Rattle.std.specs.Prelude.{length, slice_get}
use Rattle.kp_batch.specs.Batch.{Written}
use Rattle.kp_segment.specs.declared.name.SegmentName.{SegmentName}
use Rattle.kp_handles.specs.Holding.{segments_in}
use Rattle.kp_handles.specs.Objects.{segments}
use Rattle.kp_handles.proofs.Bad.{segment_met}
use Rattle.kp_handles.proofs.segments.segment_object.Goals as goal

pub returns-in-Some : goal.returns-in-Some
returns-in-Some g c =
    let ss = c.in-Segments.shares.items in
    let ds = c.deref.result.now in
    let held : c.args.object.now ≡ segments ss = search rules in
    segment_met c.args.index c.args.object.now c.args.to.now c.given.new.to ss c.in-Some.share.now c.given.result held
    (ap (λ (xs : List (SegmentName × List Written)). slice_get xs c.args.index) (sym c.deref.ensures.value) ∙ slice_get_read ds (length ds) c.args.index c.in-Some.share.now refl c.in-Some.ensures.lookup.3.0 c.in-Some.ensures.lookup.1)
    c.given.ensures

pub returns-in-None : goal.returns-in-None
returns-in-None g c =
    let ss = c.in-Segments.shares.items in
    let ds = c.deref.result.now in
    let held : c.args.object.now ≡ segments ss = search rules in
    let same = ap (λ (xs : List (SegmentName × List Written)). slice_get xs c.args.index) (sym c.deref.ensures.value) in
    (refl, (c.args.object.now, refl, (ss, ap segments_in held, same ∙ slice_get_past ds c.args.index c.in-None.ensures.lookup.3)))
