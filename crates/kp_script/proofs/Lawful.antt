-- A batch that a line asks for is lawful.
use Rattle.std.proofs.Common.{◌≡◌, ℕ, ◌+◌, ◌<◌, ◌≤◌, ◌^◌, Bool, true, false, not, ◌&&◌, eqb, leb, ltb, List, [], ◌∷◌, length, map, Option, Some, None, Result, Ok, Err, refl, subst, arith, inl, inr}
use Rattle.std.specs.List.{list_all, AllByRecursion}
use Rattle.std.proofs.lemmas.List.{length-map}
use Rattle.std.specs.Option.{ok_or, option_map}
use Rattle.std.proofs.lemmas.Bool.{and_parts, cases_Bool, leb-true, ltb-false}
use Rattle.kp_types.specs.declared.refusal.Refusal.{Refusal}
use Rattle.kp_types.specs.declared.refusal.Refusal.TheVariants.{BadProducerFields, TooLarge}
use Rattle.kp_record.specs.Record.{AreBytes, IsRecord, records_spelling}
use Rattle.kp_batch.specs.Batch.{Body, IsBody, Plain, Produced}
use Rattle.kp_batch.proofs.Cells.{size_is}
use Rattle.kp_model.specs.Event.{Produce}
use Rattle.kp_replica.specs.Acts.{plain_act}
use Rattle.kp_replica.specs.Replies.{IsOffer}
use Rattle.kp_replica.specs.declared.act.PlainAct.{PlainAct}
use Rattle.kp_replica.specs.declared.act.PlainAct.TheVariants.{Alter}
use Rattle.kp_replica.specs.declared.altering.IsrChange.TheVariants.{Join, Leave}
use Rattle.kp_world.specs.Laws.{IsLawful}
use Rattle.kp_script.specs.Call.{Sender, IsSender, is_value, is_value_byte}
use Rattle.kp_record.specs.Made.{plain_record}
use Rattle.kp_script.specs.Told.{body_at, offer_of, said_of}
use Rattle.kp_script.specs.Transcript.{largest_batch}

is_byte : (x : ℕ) → is_value_byte x ≡ true → x < 256
is_byte x h =
    let parts = and_parts (leb 33 x && leb x 126) (not (eqb x 44)) h in
    let both = and_parts (leb 33 x) (leb x 126) parts.0 in
    omega (arith, leb-true x 126 both.1)

are_bytes : (value : List ℕ) → list_all is_value_byte value ≡ true → AreBytes value
are_bytes [] h = tt
are_bytes (x ∷ xs) h =
    let parts = and_parts (is_value_byte x) (list_all is_value_byte xs) h in
    (is_byte x parts.0, are_bytes xs parts.1)

are_records : (time : ℕ) (values : List (List ℕ)) → time < 2 ^ 62 → list_all is_value values ≡ true → AllByRecursion IsRecord (map (plain_record time) values)
are_records time [] early h = tt
are_records time (value ∷ values) early h =
    let parts = and_parts (is_value value) (list_all is_value values) h in
    let bytes = and_parts (leb 1 (length value)) (list_all is_value_byte value) parts.0 in
    (record { time = early; key = tt; value = are_bytes value bytes.1; headers = tt }, are_records time values early parts.1)

-- what a line's fields say, in range
record Asks (time : ℕ) (values : List (List ℕ)) : Type 0 where
  early : time < 2 ^ 62
  some : 0 < length values
  lawful : list_all is_value values ≡ true
  fits : 61 + length (records_spelling time 0 (map (plain_record time) values)) ≤ largest_batch

lawful_plain : (time : ℕ) (values : List (List ℕ)) → Asks time values → IsBody (body_at time (Plain (map (plain_record time) values)))
lawful_plain time values a =
    let b : Body = body_at time (Plain (map (plain_record time) values)) in
    record {
      some = omega (arith, length-map values (plain_record time), a.some);
      records = are_records time values a.early a.lawful;
      base_time = a.early;
      content = tt;
      length = omega (arith, size_is b, a.fits);
    }

lawful_produced : (time producer epoch sequence : ℕ) (transactional : Bool) (values : List (List ℕ)) → producer < 2 ^ 63 → epoch < 2 ^ 15 → sequence < 2 ^ 31 → Asks time values
    → IsBody (body_at time (Produced producer epoch sequence transactional (map (plain_record time) values)))
lawful_produced time producer epoch sequence transactional values p e s a =
    let b : Body = body_at time (Produced producer epoch sequence transactional (map (plain_record time) values)) in
    record {
      some = omega (arith, length-map values (plain_record time), a.some);
      records = are_records time values a.early a.lawful;
      base_time = a.early;
      content = (p, e, s);
      length = omega (arith, size_is b, a.fits);
    }

pub same_body : (a b : Body) → (let r : Result Body Refusal = Ok a in r) ≡ Ok b → a ≡ b
same_body a b e = cc

-- the batch that the fields say, where they agree
agreed : (time : ℕ) (p e s : Option ℕ) (t : Bool) (values : List (List ℕ)) (body : Body) → IsSender (record { producer = p; epoch = e; sequence = s }) → Asks time values
    → ok_or (option_map (body_at time) (said_of p e s t (map (plain_record time) values))) BadProducerFields ≡ Ok body → IsBody body
agreed time None None None false values body range a is = subst IsBody (same_body _ body is) (lawful_plain time values a)
agreed time None None None true values body range a is = absurd cc
agreed time None None (Some s) t values body range a is = absurd cc
agreed time None (Some e) s t values body range a is = absurd cc
agreed time (Some p) None s t values body range a is = absurd cc
agreed time (Some p) (Some e) None t values body range a is = absurd cc
agreed time (Some p) (Some e) (Some s) t values body range a is =
    subst IsBody (same_body _ body is) (lawful_produced time p e s t values range.producer range.epoch range.sequence a)

offered : (time : ℕ) (sender : Sender) (t : Bool) (values : List (List ℕ)) (body : Body) → IsSender sender → time < 2 ^ 62 → 0 < length values → list_all is_value values ≡ true
    → offer_of largest_batch time sender t values ≡ Ok body → IsBody body
offered time sender t values body range early some lawful is =
    let size = 61 + length (records_spelling time 0 (map (plain_record time) values)) in
    elim (cases_Bool (ltb largest_batch size)) [
      | inl large ↦ absurd (let no : Err TooLarge ≡ Ok body = rw large at is in cc)
      | inr small ↦
          agreed time sender.producer sender.epoch sender.sequence t values body range
          (record { early = early; some = some; lawful = lawful; fits = ltb-false largest_batch size small }) (rw small at is)
    ]

by_batch : (o : Result Body Refusal) → ((body : Body) → o ≡ Ok body → IsBody body) → IsLawful (Produce o)
by_batch (Ok body) lawful = lawful body refl
by_batch (Err fault) lawful = tt

-- what a line's values hand in
pub lawful_values : (time : ℕ) (sender : Sender) (t : Bool) (values : List (List ℕ)) → IsSender sender → time < 2 ^ 62 → 0 < length values → list_all is_value values ≡ true
    → IsLawful (Produce (offer_of largest_batch time sender t values))
lawful_values time sender t values range early some lawful =
    by_batch (offer_of largest_batch time sender t values) (λ body is. offered time sender t values body range early some lawful is)

-- what raw bytes hand in
pub lawful_bytes : (max : ℕ) (bytes : List ℕ) (offer : Result Body Refusal) → IsOffer max bytes offer → IsLawful (Produce offer)
lawful_bytes max bytes (Ok body) (w, batch, is) = subst IsBody is batch.spelled.lawful.body
lawful_bytes max bytes (Err fault) is = tt

-- an act that hands in no bytes
pub lawful_act : (act : PlainAct) → IsLawful (plain_act act)
lawful_act (Alter (Join m)) = tt
lawful_act (Alter (Leave m)) = tt
lawful_act _ = tt
