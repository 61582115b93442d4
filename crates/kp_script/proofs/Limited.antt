-- No log of a script's run has a batch above the greatest size.
use Rattle.std.proofs.Common.{◌≡◌, ℕ, ◌+◌, ◌++◌, ◌≤◌, Bool, true, false, ltb, List, [], ◌∷◌, length, map, Option, Some, None, Result, Ok, Err, refl, sym, subst, arith, inl, inr}
use Rattle.std.specs.Prelude.{reverse}
use Rattle.std.specs.List.{AllByRecursion, range_with_len}
use Rattle.std.specs.Option.{ok_or, option_map}
use Rattle.std.proofs.lemmas.Bool.{cases_Bool, ltb-false}
use Rattle.std.proofs.lemmas.List.{reverse-append}
use Rattle.kp_types.specs.declared.refusal.Refusal.{Refusal}
use Rattle.kp_types.specs.declared.refusal.Refusal.TheVariants.{BadProducerFields, TooLarge}
use Rattle.kp_types.proofs.Elements.{all_append, all_behind, all_front}
use Rattle.kp_record.specs.Record.{Record, records_spelling}
use Rattle.kp_batch.specs.Batch.{Body, Plain, Produced, size_of}
use Rattle.kp_batch.proofs.Cells.{size_is}
use Rattle.kp_marker.specs.Marker.{commits}
use Rattle.kp_marker.proofs.Built.{marker_size}
use Rattle.kp_model.specs.Event.{Event, Produce}
use Rattle.kp_model.specs.Handed.{BatchesKeepTheirSize, Hands, IsAtMost}
use Rattle.kp_model.specs.Appending.{marker_body}
use Rattle.kp_model.specs.Run.{Moment, last}
use Rattle.kp_model.proofs.InRuns.RunLaws.{last_is_of}
use Rattle.kp_replica.specs.Acts.{plain_act}
use Rattle.kp_replica.specs.Replies.{IsOffer}
use Rattle.kp_replica.specs.declared.act.PlainAct.{PlainAct}
use Rattle.kp_replica.specs.declared.act.PlainAct.TheVariants.{Mark, Alter}
use Rattle.kp_replica.specs.declared.altering.IsrChange.TheVariants.{Join, Leave}
use Rattle.kp_world.specs.Shown.{Stage, log_of}
use Rattle.kp_script.specs.Call.{Call, Header, Sender, Elect, Append, Raw, Acts, Deliver}
use Rattle.kp_script.specs.Ended.{AreLimited, KeepsLimit, limits_in}
use Rattle.kp_record.specs.Made.{plain_record}
use Rattle.kp_script.specs.Told.{AreTold, IsTold, body_at, offer_of, said_of}
use Rattle.kp_script.specs.Transcript.{Past, events_before, largest_batch}
use Rattle.kp_script.proofs.Lawful.{same_body}
use Rattle.kp_script.proofs.Logs.{node_log, shown_logs}
use Rattle.kp_script.specs.Playing.{HasPlayed, WereSmall}

-- ---- what is handed in

abbrev Small : Body → Type 0
Small b = size_of b ≤ largest_batch

-- the batch that the fields say
small_said : (time : ℕ) (p e s : Option ℕ) (t : Bool) (records : List Record) (body : Body) → 61 + length (records_spelling time 0 records) ≤ largest_batch
    → ok_or (option_map (body_at time) (said_of p e s t records)) BadProducerFields ≡ Ok body → Small body
small_said time None None None false records body fits is = subst Small (same_body _ body is) (omega (arith, size_is (body_at time (Plain records)), fits))
small_said time None None None true records body fits is = absurd cc
small_said time None None (Some s) t records body fits is = absurd cc
small_said time None (Some e) s t records body fits is = absurd cc
small_said time (Some p) None s t records body fits is = absurd cc
small_said time (Some p) (Some e) None t records body fits is = absurd cc
small_said time (Some p) (Some e) (Some s) t records body fits is =
    subst Small (same_body _ body is) (omega (arith, size_is (body_at time (Produced p e s t records)), fits))

small_offer : (time : ℕ) (sender : Sender) (t : Bool) (values : List (List ℕ)) (body : Body) → offer_of largest_batch time sender t values ≡ Ok body → Small body
small_offer time sender t values body is =
    let records : List Record = map (plain_record time) values in
    let size = 61 + length (records_spelling time 0 records) in
    elim (cases_Bool (ltb largest_batch size)) [
      | inl large ↦ absurd (let no : Err TooLarge ≡ Ok body = rw large at is in cc)
      | inr small ↦ small_said time sender.producer sender.epoch sender.sequence t records body (ltb-false largest_batch size small) (rw small at is)
    ]

small_bytes : (bytes : List ℕ) (body : Body) → IsOffer largest_batch bytes (Ok body) → Small body
small_bytes bytes body (w, batch, is) = subst Small is batch.in_limit

handed : (o : Result Body Refusal) → ((b : Body) → o ≡ Ok b → Small b) → (body : Body) → Hands (Produce o) body → Small body
handed (Ok b) small body is = subst Small (sym is) (small b refl)
handed (Err refusal) small body is = absurd is

small_act : (act : PlainAct) (body : Body) → Hands (plain_act act) body → Small body
small_act (Mark m) body is =
    let k = m.marker.coordinator_epoch in
    let c = commits m.marker.kind in
    let b : Body = marker_body m.marker.timestamp m.marker.producer_id m.marker.producer_epoch k c in
    subst Small (sym is) (let small : Small b = omega (arith, size_is b, marker_size m.marker.timestamp k c) in small)
small_act (Alter (Join m)) body is = absurd is
small_act (Alter (Leave m)) body is = absurd is
small_act _ body is = absurd is

small_told : (call : Call) (e : Event) → IsTold largest_batch call e → IsAtMost largest_batch e
small_told (Elect node) e is = subst (IsAtMost largest_batch) (sym is) tt
small_told (Append node time sender t values) e is =
    subst (IsAtMost largest_batch) (sym is) (handed (offer_of largest_batch time sender t values) (small_offer time sender t values))
small_told (Raw node bytes) e (offer, of, is) =
    subst (IsAtMost largest_batch) (sym is) (handed offer (λ b same. small_bytes bytes b (subst (IsOffer largest_batch bytes) same of)))
small_told (Acts node act) e is = subst (IsAtMost largest_batch) (sym is) (small_act act)
small_told (Deliver number) e is = subst (IsAtMost largest_batch) (sym is) tt

all_small : (calls : List Call) (es : List Event) → AreTold largest_batch calls es → AllByRecursion (IsAtMost largest_batch) es
all_small [] [] told = tt
all_small [] (e ∷ es) told = absurd told
all_small (call ∷ calls) [] told = absurd told
all_small (call ∷ calls) (e ∷ es) told = (small_told call e told.0, all_small calls es told.1)

-- ---- lists

all_turned : {X : Type 0} (P : X → Type 0) (xs : List X) → AllByRecursion P (reverse xs) → AllByRecursion P xs
all_turned P [] h = tt
all_turned P (x ∷ xs) h =
    let both = subst (AllByRecursion P) (reverse-append (x ∷ []) xs) h in
    ((all_behind P (reverse xs) (x ∷ []) both).0, all_turned P xs (all_front P (reverse xs) (x ∷ []) both))

all_unmapped : {X Y : Type 0} (f : X → Y) (P : Y → Type 0) (xs : List X) → AllByRecursion P (map f xs) → AllByRecursion (λ x. P (f x)) xs
all_unmapped f P [] h = tt
all_unmapped f P (x ∷ xs) h = (h.0, all_unmapped f P xs h.1)

all_mapped : {X Y : Type 0} (f : X → Y) (P : Y → Type 0) (xs : List X) → ((x : X) → P (f x)) → AllByRecursion P (map f xs)
all_mapped f P [] each = tt
all_mapped f P (x ∷ xs) each = (each x, all_mapped f P xs each)

-- ---- the logs

pub limited : BatchesKeepTheirSize → (past : Past) (header : Header) (done : List (ℕ × Call)) (stage : Stage) (refused : ℕ) (old now : Option (List ℕ)) → length stage.nodes ≡ header.count
    → WereSmall past → HasPlayed past header done stage refused old now → AreLimited (map log_of stage.nodes)
limited keep past header done stage refused old now count before p =
    let run = p.reached.run in
    let w = last run in
    let small : AllByRecursion (IsAtMost largest_batch) (events_before past ++ p.events) =
    all_append (IsAtMost largest_batch) (events_before past) p.events before (all_small (map (λ (call : ℕ × Call). call.1) done) p.events p.told) in
    let moments : AllByRecursion (λ (m : Moment). IsAtMost largest_batch m.event) run.moments =
    all_unmapped (λ (m : Moment). m.event) (IsAtMost largest_batch) run.moments
    (all_turned (IsAtMost largest_batch) (map (λ (m : Moment). m.event) run.moments)
    (subst (AllByRecursion (IsAtMost largest_batch)) (sym p.reached.events_are) small)) in
    subst AreLimited (sym (shown_logs header stage w p.reached.shown count))
    (all_mapped (λ n. node_log (limits_in header) (w.nodes n)) KeepsLimit (range_with_len 0 header.count)
    (λ n. keep header.count largest_batch run moments w (last_is_of header.count run) (w.nodes n).log (inl (n, refl))))
