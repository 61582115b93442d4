use Rattle.std.proofs.Common.{◌≡◌, ◌∷◌, ◌∙◌, ℕ, refl, ap, subst}
use Rattle.std.proofs.lemmas.Option.{slice_get_read}
use Rattle.std.specs.Prelude.{length}
use Rattle.kp_record.specs.Lent.{lent}
use Rattle.kp_batch.specs.Batch.{count_of}
use Rattle.kp_batch.specs.RecordPlaces.{behind, records_from}
use Rattle.kp_batch.specs.declared.record_place.RecordPlace.{RecordPlace}
use Rattle.kp_handles.specs.Records.{moved, next_record, place_of, record_out}
use Rattle.kp_handles.proofs.RecordParts.{batch_is}
use Rattle.kp_handles.proofs.records.RecordInSeenOfRecordOut.look.Goals as goal

pub returns-clause-found : goal.returns-clause-found
returns-clause-found g c =
    let at = c.args.self.at in
    let o = c.args.object.now in
    let ws = c.in-Ok.batches.now in
    let w = c.in-Some.batch.now in
    let r = lent c.in-Some-record_at.record in
    let next = c.in-Some-record_at.next in
    let is : next ≡ behind w.body.base_time (place_of at) r =
    c.in-Some-record_at.ensures.next ∙ ap (λ (p : RecordPlace). behind w.body.base_time p r) c.place.ensures in
    let there = slice_get_read ws (length ws) at.batch w refl c.in-Some.ensures.lookup.3.0 c.in-Some.ensures.lookup.1 in
    let moves : c.moved-next.result ≡ next_record at w r =
    c.moved-next.ensures ∙ ap (λ (n : ℕ). moved at.batch next n) c.count.ensures.value
    ∙ ap (λ (p : RecordPlace). moved at.batch p (count_of w.body)) is in (
      o,
      w,
      r,
      refl,
      batch_is at o ws c.in-Ok.ensures.found w there,
      subst (λ (p : RecordPlace × RecordPlace). records_from p.0 w.body ≡ r ∷ records_from p.1 w.body) (λ i. (c.place.ensures i, is i)) c.in-Some-record_at.ensures.found,
      c.told.ensures ∙ (λ i. record_out (c.aborted_of.ensures i) at w r (moves i)),
    )
