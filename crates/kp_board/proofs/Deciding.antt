-- A decision on a proposal, a step on word 0 by the proposal's pass, keeps the rule.
use Rattle.std.proofs.Common.{◌≡◌, ◌≢◌, ℕ, ◌<◌, Bool, true, false, List, [], ◌∷◌, ◌+◌, length, get_or, set, eqb, Option, Some, None, inl, inr, refl, sym, ap, ◌∙◌, subst, arith, length-set, get_or-set_other, get_or-set_same, eq-eqb, ne_eqb}
use Rattle.std.specs.Prelude.{slice_get, nat_le, ◌&&◌, if◌then◌else◌}
use mathlib.Core.Logic.{dite}
use mathlib.Core.Option.{none, some}
use native.Mathlib.Decide.{ℕ_discrete}
use lib.ListN.{get_elem?}
use prog.Atomic.{either}
use Rattle.atomic_table.specs.Table.{Me, State, step, Act, keeps, stepped, Valid, carried_after, Allows}
use Rattle.kp_types.specs.Causes.{first_of}
use Rattle.kp_types.specs.declared.refusal.Refusal.{Refusal}
use Rattle.kp_types.specs.declared.refusal.Refusal.TheVariants.{RecordFull}
use Rattle.kp_model.specs.World.{LeaderAndIsr, Proposal, Message, Proposes, Decides, World, IsSent, most_nodes}
use Rattle.kp_model.specs.Controller.{same_record, altered, greatest_version}
use Rattle.kp_model.specs.Step.{IsInRange, decide_cause, decided_on, decision}
use Rattle.kp_model.specs.Run.{Run, last}
use Rattle.kp_model.specs.Left.{Opening}
use Rattle.kp_model.proofs.InRuns.KnownRecords.{decisions_rise}
use Rattle.kp_model.proofs.InRuns.Longer.{decided_run, decided_world, decision_step, sent_after, sent_before, told_so}
use Rattle.kp_model.proofs.InRuns.RunLaws.{last_is_of}
use Rattle.kp_model.proofs.Plain.SameRecords.{same_record_is}
use Rattle.kp_control.specs.Word.{packed}
use Rattle.kp_control.proofs.Words.{one_word}
use Rattle.kp_board.specs.Views.{CallerView, View, of_caller}
use Rattle.kp_board.specs.Rule.{mark_word, WasWatermark, WasRecord, WereRecords, AreSent, IsOfRun, FitsCaller, Ruled}
use Rattle.kp_board.specs.Plays.{Finds}
use Rattle.kp_board.specs.Decisions.{EndsDeciding, ShowsDecision, ShowsAfter, Decided, deciding, unless_refused, record_after}
use Rattle.kp_board.proofs.Counting.{caller_counts}
use Rattle.kp_board.proofs.Steps.{caller_later, keeps_rule, looks_on, record_on}
use Rattle.kp_board.proofs.Fitting.{caller_fits, same_caller, record_word, not_above, version_le, shown_now}

-- a proposal that names another record leaves this one
not_named : (c : LeaderAndIsr) (p : Proposal) → same_record c p.known ≡ false → record_after c p ≡ c
not_named c p e =
    subst (λ (b : Bool). unless_refused (first_of ((b && nat_le greatest_version c.version, RecordFull) ∷ [])) (if b then altered c p.isr else c) c ≡ c) (sym e) refl

-- the exchange from the named record's word leaves the word of the record after the decision
word_is : (c : LeaderAndIsr) (p : Proposal) → IsInRange most_nodes c → IsInRange most_nodes p.known
    → either (eqb (packed c) (packed p.known)) (packed (record_after p.known p)) (packed c) ≡ packed (record_after c p)
word_is c p c_in known_in = dite (ℕ_discrete (packed c) (packed p.known))
    (λ hit. subst (λ b. either b (packed (record_after p.known p)) (packed c) ≡ packed (record_after c p)) (sym (eq-eqb (packed c) (packed p.known) hit))
    (ap (λ (x : LeaderAndIsr). packed (record_after x p)) (sym (one_word c p.known c_in known_in hit))))
    (λ miss. subst (λ b. either b (packed (record_after p.known p)) (packed c) ≡ packed (record_after c p)) (sym (ne_eqb (packed c) (packed p.known) miss))
    (sym (ap packed (not_named c p (other (same_record c p.known) refl miss)))))
  where
    other : (b : Bool) → same_record c p.known ≡ b → packed c ≢ packed p.known → same_record c p.known ≡ false
    other true e miss = absurd (miss (ap packed (same_record_is c p.known e)))
    other false e miss = e

-- ---- the run and one decision more

module _ {n : ℕ} (r : Run n) (number : ℕ) (p : Proposal) (proposed : slice_get (last r).messages number ≡ Some (Proposes p)) (free : decide_cause (last r).controller p ≡ None) where
  pub ends_deciding : EndsDeciding (decided_run r number p proposed free) p (last r).controller
  ends_deciding = record {
    before = r;
    number = number;
    outcome = told_so r number p proposed free;
    after = decided_world r number p proposed free;
    step = decision_step r number p proposed free;
    is = refl;
    proposed = proposed;
    old_is = refl;
    next_is = refl;
    sent = sent_after (last r).messages (Decides (decision (last r).controller p) ∷ []) (Decides (decision (last r).controller p)) (0, refl);
  }

-- a decision's record is newer than the one that its proposal names
pub is_newer : (p : Proposal) (c : LeaderAndIsr) (x : CallerView) → ShowsDecision p c x → p.known.version < (decided_on c p).version
is_newer p c x shows =
    let n = shows.0 in
    let r = shows.1 in
    let ends = shows.3 in
    let here : last r ≡ ends.after = ap (λ (q : Run n). last q) ends.is in
    decisions_rise n r (last r) (last_is_of n r) (decision c p) (subst (λ (w : World). IsSent w.messages (Decides (decision c p))) (sym here) ends.sent)

-- the record's version rises by as many changes as the pass counts more
rises_as_counted : (c : LeaderAndIsr) (p : Proposal) (x : CallerView) → length (deciding c p x).changes + c.version ≡ length x.changes + (decided_on c p).version
rises_as_counted c p x = by_cases (same_record c p.known)
  where
    by_cases : (b : Bool) → length (if b then (if b then altered c p.isr else c) ∷ x.changes else x.changes) + c.version ≡ length x.changes + (if b then altered c p.isr else c).version
    by_cases true = omega arith
    by_cases false = refl

-- and what it counts were records
were_counted : {n : ℕ} (r : Run n) (b : Bool) (c : LeaderAndIsr) (cs : List LeaderAndIsr) → WasRecord r c → WereRecords r cs → WereRecords r (if b then c ∷ cs else cs)
were_counted r true c cs a w = (a, w)
were_counted r false c cs a w = w

abbrev Same : Me ℕ View → Me ℕ View → Type 0
Same a b = a ≡ b

abbrev first_proposal : List Message → Proposal → Proposal
first_proposal (Proposes p ∷ _) other = p
first_proposal _ other = other

same_first : (p q : Proposal) → Proposes p ∷ [] ≡ Proposes q ∷ [] → p ≡ q
same_first p q e = ap (λ (ls : List Message). first_proposal ls p) e

module _ (begun : Opening) (id : ℕ) (m : Me ℕ View) (x : CallerView) (p : Proposal) (is : m.0 ≡ of_caller x) (told : x.sent ≡ Proposes p ∷ []) (s : State ℕ View) (d : Ruled begun s) (at : get_elem? s.views id ≡ some m.0) where
  abbrev n : ℕ
  n = begun.count

  abbrev now : LeaderAndIsr
  now = (last d.run).controller

  fits : FitsCaller d.run s.words x
  fits = caller_fits begun s d id m.0 x at is

  proposed : IsSent (last d.run).messages (Proposes p)
  proposed = (subst (AreSent (last d.run).messages) told fits.of_run.sent).0

  abbrev Picks : Option Refusal → ℕ → Type 0
  Picks o word = (w : View) × (a : Act ℕ) × Valid s.homes m.1 a × Ruled begun (stepped s 0 word id m.1 w a)
      × ((y : CallerView) × Same (w, carried_after m.1 a) (of_caller y, m.1) × ShowsAfter o now p x y)

  -- the view after the step, by the cause that refuses the decision
  picks : (o : Option Refusal) (word : ℕ) → decide_cause now p ≡ o → word ≡ packed (unless_refused o (decided_on now p) now) → Picks o word
  picks None word free to =
      let sent = proposed in
      let l : Message = Decides (decision now p) in
      let y : CallerView = deciding now p x in
      let q : Run n = decided_run d.run sent.0 p sent.1 free in
      let words' : List ℕ = set s.words 0 word in
      let there : 0 < length s.words = (let a = d.wide in omega arith) in
      let others = λ (j : ℕ). get_or-set_other s.words 0 (mark_word j) word 0 (λ e. omega arith) in
      let later = record_on d.run q d.owner s.words words' id (λ w a. inr a) (λ w a. a) (λ j. refl) (λ z t. sent_before (last d.run).messages (l ∷ []) z t) others in
      let g = caller_later d.run q d.owner s.words words' id later x fits in
      let is_now : WasRecord q (decided_on now p) = (last q, inl refl, refl) in
      let of_run : IsOfRun q y = record {
        wide = g.of_run.wide;
        seen = g.of_run.seen;
        shown = is_now;
        marks = g.of_run.marks;
        receipts = g.of_run.receipts;
        sent = (sent_after (last d.run).messages (l ∷ []) l (0, refl), tt);
        changes = were_counted q (same_record now p.known) (decided_on now p) x.changes is_now g.of_run.changes;
      } in (
        of_caller y,
        keeps,
        tt,
        keeps_rule s d q words' id (of_caller y) later (length-set s.words 0 word) (get_or-set_same s.words 0 word 0 there ∙ to)
            (λ j i. subst (WasWatermark q j) (sym (others j)) (let w = d.marks j i in (w.0, inr w.1, w.2)))
            record { of_run = of_run; told = g.told; reached = g.reached }
            m.0 at (caller_counts m.0 x y now.version (last q).controller.version is (rises_as_counted now p x)),
        (y, refl, (refl, (n, q, of_run, ends_deciding d.run sent.0 p sent.1 free))),
      )
  picks (Some refusal) word full to =
      let y : CallerView = record x { shown = now } in (
        of_caller y,
        keeps,
        tt,
        subst (λ (z : ℕ). Ruled begun (stepped s 0 z id m.1 (of_caller y) keeps)) (sym (to ∙ sym d.record_is))
            (looks_on s d 0 id (of_caller y) record { of_run = shown_now begun s d x fits; told = fits.told; reached = fits.reached } m.0 at (caller_counts m.0 x y now.version now.version is refl)),
        (y, refl, (refl, (n, d.run, shown_now begun s d x fits, refl))),
      )

  pub decides : (old new : ℕ) → IsInRange most_nodes p.known → old ≡ packed p.known → new ≡ packed (record_after p.known p)
      → (w : View) × (a : Act ℕ) × Valid s.homes m.1 a × Ruled begun (stepped s 0 (either (eqb (get_or s.words 0 0) old) new (get_or s.words 0 0)) id m.1 w a)
      × Decided (step 0 0 old new none) m (get_or s.words 0 0) (w, carried_after m.1 a)
  decides old new range old_is new_is =
      let found : ℕ = get_or s.words 0 0 in
      let here = record_word begun s d in
      let later = version_le begun x.shown now (not_above begun s d x.shown fits.of_run.shown) in
      let z = picks (decide_cause now p) (either (eqb found old) new found) refl
      ((λ i. either (eqb (d.record_is i) (old_is i)) (new_is i) (d.record_is i)) ∙ word_is now p here.range range) in (
        z.0,
        z.1,
        z.2,
        z.3,
        λ x' p' e told'.
            let same : x ≡ x' = same_caller begun x x' (sym is ∙ e) in
            let same_p : p ≡ p' = same_first p p' (sym told ∙ ap (λ (v : CallerView). v.sent) same ∙ told') in
            subst (λ (t : CallerView × Proposal). (c : LeaderAndIsr) × Finds t.0.shown c found × ((y : CallerView) × Same (z.0, carried_after m.1 z.1) (of_caller y, m.1) × ShowsAfter (decide_cause c t.1) c t.1 t.0 y)) (λ i. (same i, same_p i))
            (now, record { is = here; later = later }, z.4),
      )

-- the exchange on word 0 by a caller's pass that was told of the proposal
pub decides_at : (begun : Opening) (slots id : ℕ) (m : Me ℕ View) (x : CallerView) (p : Proposal) (old new : ℕ) → m.0 ≡ of_caller x → x.sent ≡ Proposes p ∷ [] → IsInRange most_nodes p.known → old ≡ packed p.known → new ≡ packed (record_after p.known p)
    → Allows (Ruled begun) slots id m 0 (λ z. either (eqb z old) new z) (Decided (step slots 0 old new none) m)
decides_at begun slots id m x p old new is told range old_is new_is s d _ at _ = decides begun id m x p is told s d at old new range old_is new_is

-- the message that a pass gives on is the one that it was told of, or has sent, last
pub told_first : (ls : List Message) (l m : Message) → ls ≡ l ∷ [] → slice_get ls 0 ≡ Some m → m ≡ l
told_first ls l m e f = sym (some_one l m (ap (λ (xs : List Message). slice_get xs 0) (sym e) ∙ f))
  where
    some_one : (a b : Message) → slice_get (a ∷ []) 0 ≡ Some b → a ≡ b
    some_one a b h = cc
