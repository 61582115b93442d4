-- What the bytes of a batch hand in that a line asks for.
use Rattle.std.proofs.Common.{◌≡◌, ℕ, ◌+◌, ◌<◌, ◌≤◌, ◌^◌, ltb, Bool, true, false, List, length, map, Option, Some, None, Ok, Err, refl, ap, ◌∙◌, arith, subst}
use Rattle.std.proofs.lemmas.Bool.{cond_both, lt-ltb, ltb-true, ltb-false}
use Rattle.std.specs.Prelude.{if◌then◌else◌}
use Rattle.std.specs.Option.{ok_or, option_map}
use Rattle.kp_types.specs.declared.refusal.Refusal.TheVariants.{TooLarge, BadProducerFields}
use Rattle.kp_record.specs.Record.{Record, records_spelling}
use Rattle.kp_record.specs.Made.{plain_record, record_made}
use Rattle.kp_record.specs.declared.parts.Parts.{Parts}
use Rattle.kp_batch.specs.Batch.{Content, Plain, Produced, Written}
use Rattle.kp_batch.specs.Building.{IsMade, has_agreed}
use Rattle.kp_batch.specs.Laws.{IsBatch}
use Rattle.kp_batch.specs.Reading.{IsFirstFault}
use Rattle.kp_batch.specs.Spelling.{IsSpelled}
use Rattle.kp_replica.specs.Replies.{IsOffer}
use Rattle.kp_script.specs.Call.{Sender, IsSender}
use Rattle.kp_script.specs.Told.{said_of, body_at, offer_of}
use Rattle.kp_script.specs.Transcript.{largest_batch}
use Rattle.kp_script.proofs.Appending.{fields_at, plain_is, produced_is, body_is}

-- the fields of a sender
abbrev sender_of : (producer epoch sequence : Option ℕ) → Sender
sender_of producer epoch sequence = record { producer = producer; epoch = epoch; sequence = sequence }

alike : (t b : Bool) → (if t then b else b) ≡ b
alike true b = refl
alike false b = refl

-- a reader finds the batch of these fields, or their fault
pub record IsFound (max : ℕ) (bytes : List ℕ) (time : ℕ) (sender : Sender) (transactional : Bool) (parts : List Parts) : Type 0 where
  pub agreed : has_agreed (fields_at time sender transactional) ≡ true →
      (w : Written) × IsBatch max bytes w × (w.base ≡ 0) × (w.epoch ≡ None) × IsMade (fields_at time sender transactional) parts w.body
  pub disagreeing : has_agreed (fields_at time sender transactional) ≡ false → IsFirstFault max bytes BadProducerFields

-- the batch that is found is handed in
found_offer : (max : ℕ) (bytes : List ℕ) (w : Written) (time : ℕ) (content : Content) → IsBatch max bytes w → w.body ≡ body_at time content →
    IsOffer max bytes (Ok (body_at time content))
found_offer max bytes w time content batch e = (w, batch, e)

-- what the bytes hand in where they are not too many
within : (max : ℕ) (bytes : List ℕ) (time : ℕ) (p e s : Option ℕ) (t : Bool) (parts : List Parts) → IsSender (sender_of p e s) →
    IsFound max bytes time (sender_of p e s) t parts → IsOffer max bytes (ok_or (option_map (body_at time) (said_of p e s t (map record_made parts))) BadProducerFields)
within max bytes time None None None false parts range found =
    let w = found.agreed refl in
    let made = w.4 in
    let content = plain_is w.0.body.base_time w.0.body.content made.attributes_are made.producer ∙ ap Plain made.records in
    found_offer max bytes w.0 time (Plain (map record_made parts)) w.1 (body_is w.0.body time (Plain (map record_made parts)) made.base_time content)
within max bytes time (Some p) (Some e) (Some s) t parts range found =
    let w = found.agreed (rw (lt-ltb p (2 ^ 63) range.producer, lt-ltb e (2 ^ 15) range.epoch, lt-ltb s (2 ^ 31) range.sequence) (alike t true)) in
    let made = w.4 in
    let content = produced_is w.0.body.base_time w.0.body.content p e s t made.attributes_are made.producer made.producer_epoch made.sequence ∙ ap (Produced p e s t) made.records in
    found_offer max bytes w.0 time (Produced p e s t (map record_made parts)) w.1 (body_is w.0.body time (Produced p e s t (map record_made parts)) made.base_time content)
within max bytes time None None None true parts range found = found.disagreeing refl
within max bytes time None None (Some s) t parts range found = found.disagreeing (alike t false)
within max bytes time None (Some e) s t parts range found = found.disagreeing (alike t false)
within max bytes time (Some p) None s t parts range found =
    found.disagreeing (rw (lt-ltb p (2 ^ 63) range.producer) (alike t false))
within max bytes time (Some p) (Some e) None t parts range found =
    found.disagreeing (rw (lt-ltb p (2 ^ 63) range.producer, lt-ltb e (2 ^ 15) range.epoch) (alike t false))

-- The bytes of a batch of values hand in what the fields say, or its fault.
pub offers : (max : ℕ) (bytes : List ℕ) (time : ℕ) (sender : Sender) (transactional : Bool) (values : List (List ℕ)) (parts : List Parts) → IsSender sender →
    map record_made parts ≡ map (plain_record time) values → IsSpelled max (fields_at time sender transactional) parts bytes →
    IsOffer max bytes (offer_of max time sender transactional values)
offers max bytes time sender transactional values parts range same spelled =
    let size = ap (λ (rs : List Record). 61 + length (records_spelling time 0 rs)) same in
    let asked : ℕ = 61 + length (records_spelling time 0 (map (plain_record time) values)) in
    cond_both (ltb max asked) (Err TooLarge) (ok_or (option_map (body_at time) (said_of sender.producer sender.epoch sender.sequence transactional (map (plain_record time) values))) BadProducerFields) (IsOffer max bytes)
    (λ large. spelled.too_large (omega (arith, size, ltb-true max asked large)))
    (λ fits.
    let small : asked ≤ max = ltb-false max asked fits in
    subst (λ (rs : List Record). IsOffer max bytes (ok_or (option_map (body_at time) (said_of sender.producer sender.epoch sender.sequence transactional rs)) BadProducerFields)) same
    (within max bytes time sender.producer sender.epoch sender.sequence transactional parts range record {
      agreed = spelled.agreed (omega (arith, size, small));
      disagreeing = spelled.disagreeing (omega (arith, size, small));
    }))

-- And bytes that are too large hand in that fault, where the batch would be too large.
pub large_offer : (bytes : List ℕ) (time : ℕ) (sender : Sender) (transactional : Bool) (values : List (List ℕ)) → IsFirstFault largest_batch bytes TooLarge →
    largest_batch < 61 + length (records_spelling time 0 (map (plain_record time) values)) → IsOffer largest_batch bytes (offer_of largest_batch time sender transactional values)
large_offer bytes time sender transactional values first large =
    rw (lt-ltb largest_batch (61 + length (records_spelling time 0 (map (plain_record time) values))) large) first
