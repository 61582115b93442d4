use Rattle.std.proofs.Common.{◌≡◌, ◌∷◌, refl, subst}
use Rattle.std.proofs.lemmas.Option.{slice_get_read}
use Rattle.std.specs.Option.{option_map}
use Rattle.std.specs.Prelude.{Some, length}
use Rattle.kp_record.specs.Lent.{lent}
use Rattle.kp_batch.specs.RecordPlaces.{records_from}
use Rattle.kp_batch.specs.declared.record_place.RecordPlace.{RecordPlace}
use Rattle.kp_handles.specs.Records.{parts_at, parts_of}
use Rattle.kp_handles.proofs.RecordParts.{parts_are}
use Rattle.kp_handles.proofs.records.part_in.Goals as goal
use Rattle.kp_handles.proofs.records.part_in.Goals.{After-part_of}
use Rattle.kp_handles.proofs.records.part_in.Given.{Over}

-- the parts of the record that stands there
parts_here : (g : Over) (c : After-part_of g) → parts_at c.args.at c.args.object.now ≡ Some (parts_of (lent c.in-Some-record_at.record))
parts_here g c =
    let at = c.args.at in
    let ws = c.in-Ok.batches.now in
    let w = c.in-Some.batch.now in
    let r = lent c.in-Some-record_at.record in
    let next = c.in-Some-record_at.field-0-1 in
    let there = slice_get_read ws (length ws) at.batch w refl c.in-Some.ensures.lookup.3.0 c.in-Some.ensures.lookup.1 in
    parts_are at c.args.object.now ws c.in-Ok.ensures.found w there r (records_from next w.body)
    (subst (λ (p : RecordPlace). records_from p w.body ≡ r ∷ records_from next w.body) c.place.ensures c.in-Some-record_at.ensures.found)

pub returns-in-Some-part_of-clause-found : goal.returns-in-Some-part_of-clause-found
returns-in-Some-part_of-clause-found g c = (
  c.args.object.now,
  parts_of (lent c.in-Some-record_at.record),
  option_map (λ v. v.now) c.in-Some-part_of.found,
  refl,
  parts_here g (goal.at.returns-in-Some-part_of-clause-found g c).After-part_of,
  c.in-Some-part_of.ensures,
  refl,
)

pub returns-in-None-clause-only : goal.returns-in-None-clause-only
returns-in-None-clause-only g c =
    (parts_of (lent c.in-Some-record_at.record), parts_here g (goal.at.returns-in-None-clause-only g c).After-part_of, c.in-None.ensures)
