-- What it takes that a leader served a follower's request, of which it knows the letter alone.
use Rattle.std.proofs.Common.{◌≡◌, ◌⊎◌, ℕ, zero, suc, ◌≤◌, ◌^◌, max, Bool, true, false, ltb, List, [], ◌∷◌, map, Option, Some, None, Result, Err, refl, sym, ap, ◌∙◌, subst, inl, inr, arith}
use Rattle.std.specs.Prelude.{◌&&◌, not, is_some, IsFalse, if◌then◌else◌, unwrap_or, slice_index_or, slice_set}
use Rattle.std.specs.List.{AllByRecursion}
use Rattle.std.proofs.lemmas.Bool.{cases_lt, le-ltb}
use Rattle.std.proofs.lemmas.Option.{none-some}
use Rattle.kp_types.specs.Causes.{first_of, IsRefusedOnlyBy}
use Rattle.kp_types.specs.declared.refusal.Refusal.{Refusal}
use Rattle.kp_types.specs.declared.refusal.Refusal.TheVariants as refusals
use Rattle.kp_batch.specs.Batch.{Written}
use Rattle.kp_model.specs.Beginning.{find_map}
use Rattle.kp_model.specs.Log.{Batch, written, logged, next_offset, end_of, is_boundary, carry_cause, IsBoundary, IsLog}
use Rattle.kp_model.specs.Epochs.{covers}
use Rattle.kp_model.specs.World.{Leading, Mode, Leads, Node, Request, Answer, Message, Asks, Answers}
use Rattle.kp_model.specs.Event.{Receive, Refused}
use Rattle.kp_model.specs.Letter.{FetchLetter, Fetching, Batches, Diverging, answering_of, asked_letter, letter_of, fetch_request}
use Rattle.kp_model.specs.Effect.{becomes, unless_leads}
use Rattle.kp_model.specs.Fetching.{piece_from, end_asked, serve_cause, serve_cause_for, reporting}
use Rattle.kp_model.specs.Calls.{DoesSending as NodeDoesSending, ForLetter, ForRequest, served, answer_letter}
use Rattle.kp_model.specs.declared.message.FetchRequest.{FetchRequest}
use Rattle.kp_log.specs.Refusals.{read_cause}
use Rattle.kp_insync.specs.Reports.{with_report}
use Rattle.kp_model.proofs.Plain.Logs.{boundary_within}
use Rattle.kp_model.proofs.OneStep.Sending.{serve_is_the_step}
use Rattle.kp_model.proofs.OneStep.Steps.{was_refused, lacked_memory}
use Rattle.kp_replica.proofs.HearingFacts.{fetched}
use Rattle.kp_replica.specs.NumberedNode.{NumberedNode, Does, HasReports}
use Rattle.kp_replica.specs.Sending.{DoesSending, IsServed}

-- ---- refusals

-- a log is read from each of its boundaries
pub reads_from : {A : Type 0} (log : List Batch) (offset : ℕ) (result : Result A Refusal) (refusal : Refusal) → IsBoundary log offset
    → IsRefusedOnlyBy (read_cause log offset) result → result ≡ Err refusal → ⊥
reads_from log offset result refusal boundary refused is =
    let within : ltb (end_of log) offset ≡ false = le-ltb _ _ (boundary_within log offset boundary) in
    rw (within, is) at refused

no_request : (letter : FetchLetter) (a : Answer) → letter.answering ≡ None → letter_of (Answers a) ≡ Fetching letter → ⊥
no_request letter a unanswered e = none-some (answering_of a) (sym unanswered ∙ sym (ap (λ (l : FetchLetter). l.answering) (fetched e)))

-- why a leader, or another node, refuses a request with this letter
abbrev pub cause_for : Node → FetchLetter → Option Refusal
cause_for x letter = unless_leads x.mode (serve_cause_for x.log letter.epoch letter.offset letter.last)

by_letter : (x : Node) (q : Request) (letter : FetchLetter) → asked_letter q ≡ letter → unless_leads x.mode (serve_cause x.log q) ≡ cause_for x letter
by_letter x q letter e = ap (cause_for x) e

pub refuses : (m : NumberedNode) (letter : FetchLetter) (refusal : Refusal) (message : Message) → letter.answering ≡ None → cause_for m.state letter ≡ Some refusal
    → letter_of message ≡ Fetching letter → Does m m (Receive message) (Refused refusal)
refuses m letter refusal (Asks q) unanswered cause e = λ c. (was_refused c m.number m.state (Receive (Asks q)) refusal (by_letter m.state q letter (fetched e) ∙ cause), (refl, refl))
refuses m letter refusal (Answers a) unanswered cause e = absurd (no_request letter a unanswered e)
refuses m letter refusal _ unanswered cause e = absurd cc

pub lacks : (m : NumberedNode) (letter : FetchLetter) (message : Message) → letter.answering ≡ None → cause_for m.state letter ≡ None
    → letter_of message ≡ Fetching letter → Does m m (Receive message) (Refused refusals.Memory)
lacks m letter (Asks q) unanswered cause e =
    λ c. (lacked_memory c m.number m.state (Receive (Asks q)) (becomes m.state (Refused refusals.Memory)) (by_letter m.state q letter (fetched e) ∙ cause) refl, (refl, refl))
lacks m letter (Answers a) unanswered cause e = absurd (no_request letter a unanswered e)
lacks m letter _ unanswered cause e = absurd cc

-- a leader of the request's epoch tests whether the offset is a boundary, where it covers the request
in_epoch : (log : List Batch) (r : FetchRequest) (l : Leading) (covered inside : Bool) → l.epoch ≡ r.epoch → covers log r.offset r.last_epoch ≡ covered
    → is_boundary log r.offset ≡ inside → serve_cause_for log r.epoch r.offset r.last_epoch l ≡ first_of ((covered && not inside, refusals.OffsetOutOfRange) ∷ [])
in_epoch log r l covered inside epoch covering at =
    let above : ltb r.epoch l.epoch ≡ false = le-ltb _ _ (omega (arith, epoch)) in
    let below : ltb l.epoch r.epoch ≡ false = le-ltb _ _ (omega (arith, epoch)) in
    λ i. first_of ((above i, refusals.FencedLeaderEpoch) ∷ (below i, refusals.UnknownLeaderEpoch) ∷ (covering i && not (at i), refusals.OffsetOutOfRange) ∷ [])

pub fetch_cause : (x : Node) (l : Leading) (r : FetchRequest) (covered inside : Bool) → x.mode ≡ Leads l → l.epoch ≡ r.epoch → covers x.log r.offset r.last_epoch ≡ covered
    → is_boundary x.log r.offset ≡ inside → cause_for x (fetch_request r) ≡ first_of ((covered && not inside, refusals.OffsetOutOfRange) ∷ [])
fetch_cause x l r covered inside mode epoch covering at =
    ap (λ (k : Mode). unless_leads k (serve_cause_for x.log r.epoch r.offset r.last_epoch)) mode ∙ in_epoch x.log r l covered inside epoch covering at

-- so where the batches aren't had, it is refused so
pub piece_refused : (m : NumberedNode) (l : Leading) (r : FetchRequest) (refusal : Refusal) → m.state.mode ≡ Leads l → l.epoch ≡ r.epoch → covers m.state.log r.offset r.last_epoch ≡ true
    → ((is_boundary m.state.log r.offset ≡ false) × (refusal ≡ refusals.OffsetOutOfRange)) ⊎ ((is_boundary m.state.log r.offset ≡ true) × (refusal ≡ refusals.Memory))
    → ForLetter (Fetching (fetch_request r)) (λ message. Does m m (Receive message) (Refused refusal))
piece_refused m l r refusal mode epoch covered (inl odd) = λ message e.
    refuses m (fetch_request r) refusal message refl (fetch_cause m.state l r true false mode epoch covered odd.0 ∙ ap Some (sym odd.1)) e
piece_refused m l r refusal mode epoch covered (inr lacking) = λ message e.
    subst (λ (f : Refusal). Does m m (Receive message) (Refused f)) (sym lacking.1) (lacks m (fetch_request r) message refl (fetch_cause m.state l r true true mode epoch covered lacking.0) e)

-- ---- answers

-- the leader with this list of reports
abbrev pub with_reports : NumberedNode → Leading → List (Option ℕ) → NumberedNode
with_reports m l reported = record m { state = record m.state { mode = Leads (record l { reported = reported }) } }

-- it covers the request: batches are sent
pub lifts : (m : NumberedNode) (l : Leading) (r : FetchRequest) (batches : List Batch) (watermark : ℕ) (reported : List (Option ℕ)) → m.state.mode ≡ Leads l → l.epoch ≡ r.epoch
    → covers m.state.log r.offset r.last_epoch ≡ true → is_boundary m.state.log r.offset ≡ true → batches ≡ piece_from r.offset m.state.log
    → watermark ≡ m.state.watermark → reported ≡ with_report l.reported r.from r.offset
    → IsServed m (with_reports m l reported) (fetch_request r) (record (fetch_request r) { answering = Some (Batches batches watermark) })
lifts m l r batches watermark reported mode epoch covered at given mark kept =
    let x = m.state in
    record {
      leading = l;
      leads = mode;
      free = in_epoch x.log r l true true epoch covered at;
      new_is =
          ap (λ (rs : List (Option ℕ)). record x { mode = Leads (record l { reported = rs }) }) kept
          ∙ ap (λ (b : Bool). if b then record x { mode = Leads (reporting l r.from r.offset) } else x) (sym covered);
      sent_is =
          (λ i. record (fetch_request r) { answering = Some (Batches (given i) (mark i)) })
          ∙ ap (λ (b : Bool). record (fetch_request r) { answering = Some (if b then Batches (piece_from r.offset x.log) x.watermark else Diverging (end_asked x.log r.last_epoch)) }) (sym covered);
      same = (refl, refl);
    }

-- it doesn't: the end of the epoch is told
pub diverges : (m : NumberedNode) (l : Leading) (r : FetchRequest) (end : Option (ℕ × ℕ)) → m.state.mode ≡ Leads l → l.epoch ≡ r.epoch → covers m.state.log r.offset r.last_epoch ≡ false
    → end ≡ end_asked m.state.log r.last_epoch → IsServed m m (fetch_request r) (record (fetch_request r) { answering = Some (Diverging end) })
diverges m l r end mode epoch covered told =
    let x = m.state in
    record {
      leading = l;
      leads = mode;
      free = in_epoch x.log r l false (is_boundary x.log r.offset) epoch covered refl;
      new_is = ap (λ (b : Bool). if b then record x { mode = Leads (reporting l r.from r.offset) } else x) (sym covered);
      sent_is =
          ap (λ (o : Option (ℕ × ℕ)). record (fetch_request r) { answering = Some (Diverging o) }) told
          ∙ ap (λ (b : Bool). record (fetch_request r) { answering = Some (if b then Batches (piece_from r.offset x.log) x.watermark else Diverging (end_asked x.log r.last_epoch)) }) (sym covered);
      same = (refl, refl);
    }

-- what a served letter comes to is the step of each request with it whose log is kin
pub serves : (old new : NumberedNode) (r : FetchRequest) (sent : FetchLetter) → IsLog old.state.log → IsServed old new (fetch_request r) sent
    → ForRequest (fetch_request r) old.state.log (λ m. DoesSending old new (Receive m) (Fetching sent))
serves old new r sent h s = λ q e lawful kin.
    let x = old.state in
    let l = s.leading in
    let free : serve_cause x.log q l ≡ None = ap (λ (o : FetchLetter). serve_cause_for x.log o.epoch o.offset o.last l) e ∙ s.free in
    let left : served x l (asked_letter q) ≡ new.state = ap (served x l) e ∙ sym s.new_is in
    let answer : answer_letter x (asked_letter q) ≡ sent = ap (answer_letter x) e ∙ sym s.sent_is in
    let step = serve_is_the_step old.number x l q s.leads h lawful kin free in (
      subst (λ (y : Node). NodeDoesSending old.number x y (Receive (Asks q)) (Fetching sent)) left
          (subst (λ (o : FetchLetter). NodeDoesSending old.number x (served x l (asked_letter q)) (Receive (Asks q)) (Fetching o)) answer step),
      s.same,
    )

-- ---- what is kept

-- a report is the one that was set, or stood there
set_or_stood : (reported : List (Option ℕ)) (node m end : ℕ) (new : Option ℕ) → slice_index_or (slice_set reported node new) m None ≡ Some end
    → (new ≡ Some end) ⊎ (slice_index_or reported m None ≡ Some end)
set_or_stood [] node m end new e = inr e
set_or_stood (o ∷ os) zero zero end new e = inl e
set_or_stood (o ∷ os) zero (suc m) end new e = inr e
set_or_stood (o ∷ os) (suc node) zero end new e = inr e
set_or_stood (o ∷ os) (suc node) (suc m) end new e = set_or_stood os node m end new e

some_is : {A : Type 0} (x y : A) → Some x ≡ Some y → x ≡ y
some_is x y e = cc

greater_boundary : (log : List Batch) (stood : Option ℕ) (offset end : ℕ) → ((o : ℕ) → stood ≡ Some o → IsBoundary log o) → IsBoundary log offset
    → end ≡ max (unwrap_or stood 0) offset → IsBoundary log end
greater_boundary log None offset end stands at is = let same : offset ≡ end = omega (arith, is) in subst (IsBoundary log) same at
greater_boundary log (Some o) offset end stands at is =
    elim (cases_lt o offset) [
      | inl below ↦ let same : offset ≡ end = omega (arith, below, is) in subst (IsBoundary log) same at
      | inr above ↦ let same : o ≡ end = omega (arith, above, is) in subst (IsBoundary log) same (stands o refl)
    ]

-- with a boundary reported, reports are boundaries
pub reports_with : (log : List Batch) (l : Leading) (node offset : ℕ) (reported : List (Option ℕ)) → HasReports log (Leads l) → IsBoundary log offset
    → reported ≡ with_report l.reported node offset → HasReports log (Leads (record l { reported = reported }))
reports_with log l node offset reported has at is = λ m end e.
    let stood : Option ℕ = slice_index_or l.reported node None in
    let new : ℕ = max (unwrap_or stood 0) offset in
    elim (set_or_stood l.reported node m end (Some new) (ap (λ (rs : List (Option ℕ)). slice_index_or rs m None) (sym is) ∙ e)) [
      | inl set ↦ greater_boundary log stood offset end (λ o. has node o) at (sym (some_is new end set))
      | inr stands ↦ has m end stands
    ]

-- what stands in a log can be carried
carried_log : (log : List Batch) → AllByRecursion (λ w. next_offset (logged w) ≤ 2 ^ 62) (map written log) → find_map carry_cause (map written log) ≡ None
carried_log [] h = refl
carried_log (b ∷ bs) h =
    let within : ltb (2 ^ 62) (next_offset b) ≡ false = le-ltb _ _ h.0 in
    let rest = carried_log bs h.1 in
    rw within rest

pub carried : (batches : List Written) (log : List Batch) → batches ≡ map written log → AllByRecursion (λ w. next_offset (logged w) ≤ 2 ^ 62) batches
    → IsFalse (is_some (find_map carry_cause batches))
carried batches log is h =
    let none : find_map carry_cause batches ≡ None =
    ap (λ (ws : List Written). find_map carry_cause ws) is ∙ carried_log log (subst (AllByRecursion (λ w. next_offset (logged w) ≤ 2 ^ 62)) is h) in
    ap (λ (o : Option Refusal). is_some o) none
