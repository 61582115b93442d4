-- What it takes that a leader took a coordinator's marker, or refused it.
use Rattle.std.proofs.Common.{◌≡◌, ℕ, ◌≤◌, true, false, ltb, List, [], ◌∷◌, ◌++◌, Option, Some, None, Result, Ok, Err, refl, sym, ap, ◌∙◌, subst, inl, inr}
use Rattle.std.specs.Prelude.{unwrap_or, Contains, IfOk, OnOk, OnErr}
use Rattle.std.specs.Option.{option_map_or}
use Rattle.std.proofs.lemmas.Bool.{cases_Bool}
use Rattle.std.proofs.lemmas.List.Elements.{Contains-push}
use Rattle.kp_types.specs.Causes.{IsRefusedBy}
use Rattle.kp_types.specs.declared.refusal.Refusal.{Refusal}
use Rattle.kp_types.specs.declared.refusal.Refusal.TheVariants.{OffsetsExhausted, Memory}
use Rattle.kp_batch.specs.Batch.{Body, IsBody}
use Rattle.kp_marker.specs.declared.parts.Marker.{Marker}
use Rattle.kp_model.specs.Log.{Batch, written, end_of}
use Rattle.kp_model.specs.Producers.{Producer, producer_in}
use Rattle.kp_model.specs.World.{LeaderAndIsr, Leading, Mode, Leads, Node}
use Rattle.kp_model.specs.Event.{Refused, At}
use Rattle.kp_model.specs.Admission.{Admission, Append, Duplicate, Refused as NotAdmitted, admit_marker, marker_for}
use Rattle.kp_model.specs.Effect.{Effect, becomes, WhereLeads}
use Rattle.kp_model.specs.Appending.{admission_cause, exhausts, stamped, Marks, Appends}
use Rattle.kp_model.specs.Fetching.{last_epoch}
use Rattle.kp_model.specs.Local.{Local, cause}
use Rattle.kp_log.specs.Refusals.{append_cause}
use Rattle.kp_admit.specs.Admitting.{admission_is}
use Rattle.kp_admit.specs.declared.admitting.Admission.{Admission as Answer}
use Rattle.kp_admit.specs.declared.admitting.Admission.TheVariants as answers
use Rattle.kp_replica.specs.declared.producing.Receipt.{Receipt}
use Rattle.kp_replica.specs.Replies.{IsNamedBy, IsReceiptOfBody, receipt_reply, mark_of, body_of}
use Rattle.kp_replica.proofs.ProducingFacts.{same_cause, answered_by_log}
use Rattle.kp_model.proofs.OneStep.Steps.{lacked_memory, was_refused}

-- ---- admission

-- what the table says of this marker
abbrev pub admission_of : List Batch → Marker → Admission
admission_of log m = admit_marker log m.producer_id m.producer_epoch m.coordinator_epoch

no_duplicate_of_known : (p : Producer) (epoch coordinator base : ℕ) → Duplicate base ≡ marker_for p epoch coordinator → ⊥
no_duplicate_of_known p epoch coordinator base e = elim (cases_Bool (ltb epoch p.epoch)) [
  | inl t ↦ absurd (refused_not base _ (rw t at e))
  | inr f ↦ elim (cases_Bool (option_map_or (λ c. ltb coordinator c) p.coordinator false)) [
    | inl t ↦ absurd (refused_not base _ (rw (f, t) at e))
    | inr g ↦ absurd (append_not base (rw (f, g) at e))
  ]
]
  where
    refused_not : (base : ℕ) (r : Refusal) → Duplicate base ≡ NotAdmitted r → ⊥
    refused_not base r e = cc

    append_not : (base : ℕ) → Duplicate base ≡ Append → ⊥
    append_not base e = cc

no_duplicate : (o : Option Producer) (epoch coordinator base : ℕ) → Duplicate base ≡ option_map_or (λ p. marker_for p epoch coordinator) o Append → ⊥
no_duplicate None epoch coordinator base e = cc
no_duplicate (Some p) epoch coordinator base e = no_duplicate_of_known p epoch coordinator base e

-- a marker that isn't refused is appended
pub marker_admitted : (log : List Batch) (m : Marker) (a : Answer) → admission_is a ≡ admission_of log m → ((r : Refusal) → a ≡ answers.Refused r → ⊥) → admission_of log m ≡ Append
unfolding admit_marker
marker_admitted log m answers.Append is not_refused = sym is
marker_admitted log m (answers.Duplicate base) is not_refused = absurd (no_duplicate (producer_in log m.producer_id) m.producer_epoch m.coordinator_epoch base is)
marker_admitted log m (answers.Refused r) is not_refused = absurd (not_refused r refl)

-- ---- the event

mark_in_mode : (c : LeaderAndIsr) (n : ℕ) (x : Node) (l : Leading) (m : Marker) → x.mode ≡ Leads l → cause c n x (mark_of m) ≡ admission_cause x.log (body_of m) (admission_of x.log m)
mark_in_mode c n x l m leads = rw leads refl

pub marker_refused : (c : LeaderAndIsr) (n : ℕ) (x : Node) (l : Leading) (m : Marker) (r : Refusal) → x.mode ≡ Leads l → admission_of x.log m ≡ NotAdmitted r
    → Local c n x (mark_of m) (becomes x (Refused r))
marker_refused c n x l m r leads is = was_refused c n x (mark_of m) r (mark_in_mode c n x l m leads ∙ ap (admission_cause x.log (body_of m)) is)

pub marker_exhausts : (c : LeaderAndIsr) (n : ℕ) (x : Node) (l : Leading) (m : Marker) → x.mode ≡ Leads l → admission_of x.log m ≡ Append → exhausts x.log (body_of m) ≡ true
    → Local c n x (mark_of m) (becomes x (Refused OffsetsExhausted))
marker_exhausts c n x l m leads admitted past =
    was_refused c n x (mark_of m) OffsetsExhausted (mark_in_mode c n x l m leads ∙ ap (admission_cause x.log (body_of m)) admitted ∙ rw past refl)

pub marker_lacked : (c : LeaderAndIsr) (n : ℕ) (x : Node) (l : Leading) (m : Marker) → x.mode ≡ Leads l → admission_of x.log m ≡ Append → exhausts x.log (body_of m) ≡ false
    → Local c n x (mark_of m) (becomes x (Refused Memory))
marker_lacked c n x l m leads admitted fits =
    lacked_memory c n x (mark_of m) (becomes x (Refused Memory)) (mark_in_mode c n x l m leads ∙ ap (admission_cause x.log (body_of m)) admitted ∙ rw fits refl) refl

pub marked_event : (c : LeaderAndIsr) (n : ℕ) (x : Node) (l : Leading) (m : Marker) (result : Result Receipt Refusal) (log : List Batch) → x.mode ≡ Leads l
    → admission_of x.log m ≡ Append → unwrap_or (last_epoch x.log) 0 ≤ l.epoch → IsBody (body_of m)
    → IsRefusedBy (append_cause x.log (written (stamped x.log l.epoch (body_of m)))) result → OnOk result (log ≡ x.log ++ stamped x.log l.epoch (body_of m) ∷ []) → OnErr result (log ≡ x.log)
    → IfOk result (λ receipt. IsNamedBy receipt (stamped x.log l.epoch (body_of m)) × (receipt.duplicate ≡ false))
    → Local c n x (mark_of m) (becomes (record x { log = log }) (receipt_reply result))
marked_event c n x l m result log leads admitted above lawful refused grown kept named =
    let body : Body = body_of m in
    let e : Effect = becomes (record x { log = x.log ++ stamped x.log l.epoch body ∷ [] }) (At (end_of x.log)) in
    let same = same_cause x.log l.epoch body above ∙ sym (ap (admission_cause x.log body) admitted) ∙ sym (mark_in_mode c n x l m leads) in
    let does : Marks x l body (admission_of x.log m) e = (lawful, subst (λ (a : Admission). Appends x l body a e) (sym admitted) refl) in
    answered_by_log c n x (mark_of m) l.epoch body result log same
    (subst (λ (k : Mode). WhereLeads k (λ l. Marks x l body (admission_of x.log m) e)) (sym leads) does) refl refused grown kept named

-- the marker stands in the log
pub marked_receipt : (body : Body) (log new : List Batch) (epoch : ℕ) (result : Result Receipt Refusal)
    → OnOk result (new ≡ log ++ stamped log epoch body ∷ []) → IfOk result (λ receipt. IsNamedBy receipt (stamped log epoch body) × (receipt.duplicate ≡ false))
    → IfOk result (λ receipt. IsReceiptOfBody body new receipt)
marked_receipt body log new epoch (Ok receipt) grown named =
    record {
      batch = stamped log epoch body;
      stands = subst (λ (after : List Batch). Contains after (stamped log epoch body)) (sym grown) (Contains-push log (stamped log epoch body));
      named = named.0;
      is = refl;
    }
marked_receipt body log new epoch (Err r) grown named = tt
