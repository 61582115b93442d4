-- What it takes that a follower cut its log on a leader's diverging answer.
use Rattle.std.proofs.Common.{◌≡◌, ◌⊎◌, ℕ, ◌≤◌, Bool, true, false, ltb, List, [], ◌∷◌, ◌++◌, Option, Some, None, Result, Ok, Err, refl, sym, ap, ◌∙◌, subst, arith, inl, inr}
use Rattle.std.specs.Prelude.{not, if◌then◌else◌}
use Rattle.std.proofs.lemmas.Bool.{and_parts, ltb-false}
use Rattle.kp_types.specs.Causes.{first_of, IsRefusedOnlyBy}
use Rattle.kp_types.specs.declared.refusal.Refusal.{Refusal}
use Rattle.kp_types.specs.declared.refusal.Refusal.TheVariants as refusals
use Rattle.kp_types.proofs.Causes.{only_cause, only_none, passed}
use Rattle.kp_model.specs.Beginning.{Begins}
use Rattle.kp_model.specs.Log.{Batch, IsLog, IsBoundary, below, end_of, is_boundary}
use Rattle.kp_model.specs.World.{LeaderAndIsr, Node}
use Rattle.kp_model.specs.Event.{Cut}
use Rattle.kp_model.specs.Controller.{has_epoch}
use Rattle.kp_model.specs.Effect.{becomes, is_down, mode_epoch}
use Rattle.kp_model.specs.Fetching.{reconciles, cut_cause_for}
use Rattle.kp_model.specs.Calls.{cut, cut_by}
use Rattle.kp_model.specs.declared.message.EpochEnd.{EpochEnd}
use Rattle.kp_model.specs.declared.message.FetchRequest.{FetchRequest}
use Rattle.kp_log.specs.Partition.{Partition}
use Rattle.kp_log.specs.Refusals.{truncate_cause}
use Rattle.kp_log.specs.declared.stack.Tally.{Tally}
use Rattle.kp_model.proofs.Plain.Beginnings.{Begins-refl, Begins-agree}
use Rattle.kp_model.proofs.Safety.HeldAgree.{below_boundary}
use Rattle.kp_model.proofs.Plain.Logs.{end_of-append}
use Rattle.kp_replica.specs.Cutting.{diverging, diverging_cause, place_for}
use Rattle.kp_replica.specs.NumberedNode.{NumberedNode, HasEpochs, HasReports}
use Rattle.kp_replica.specs.declared.cutting.CutBack.{CutBack}
use Rattle.kp_replica.proofs.TakingFacts.{follows}

-- why node n doesn't cut on an answer to this request, as far as its letter shows
abbrev pub cause_for : LeaderAndIsr → ℕ → Node → FetchRequest → Option Refusal
cause_for c n x r = cut_cause_for c n x r.from r.life r.epoch r.offset r.last_epoch

-- of a node that is up, by its two tests
pub cause_at_once : (c : LeaderAndIsr) (n : ℕ) (x : Node) (r : FetchRequest) (has own : Bool) → is_down x.mode ≡ false → has_epoch c (mode_epoch x.mode) ≡ has
    → reconciles n x r.from r.life r.epoch r.offset r.last_epoch ≡ own → cause_for c n x r ≡ first_of ((not has, refusals.StaleRecord) ∷ (not own, refusals.StaleAnswer) ∷ [])
cause_at_once c n x r has own up is_has is_own =
    λ i. first_of ((up i, refusals.Down) ∷ (not (is_has i), refusals.StaleRecord) ∷ (not (is_own i), refusals.StaleAnswer) ∷ [])

-- the tests of the letter come first
abbrev pub tests : (has own low odd : Bool) → Option Refusal
tests has own low odd = first_of ((not has, refusals.StaleRecord) ∷ (not own, refusals.StaleAnswer) ∷ (low, refusals.BelowSettled) ∷ (odd, refusals.NotBoundary) ∷ [])

abbrev pub first_tests : (has own : Bool) → Option Refusal
first_tests has own = first_of ((not has, refusals.StaleRecord) ∷ (not own, refusals.StaleAnswer) ∷ [])

tests_first : (has own low odd : Bool) (refusal : Refusal) → first_tests has own ≡ Some refusal → tests has own low odd ≡ Some refusal
tests_first false own low odd refusal e = e
tests_first true false low odd refusal e = e
tests_first true true low odd refusal e = absurd cc

-- what is refused is refused by the letter, or it would be cut below the watermark, or at no boundary
tests_split : (has own low odd : Bool) (refusal : Refusal) → tests has own low odd ≡ Some refusal
    → (first_tests has own ≡ Some refusal) ⊎ ((first_tests has own ≡ None) × ((low ≡ true) ⊎ (odd ≡ true)))
tests_split false own low odd refusal e = inl e
tests_split true false low odd refusal e = inl e
tests_split true true true odd refusal e = inr (refl, inl refl)
tests_split true true false true refusal e = inr (refl, inr refl)
tests_split true true false false refusal e = absurd cc

module _ (c : LeaderAndIsr) (m : NumberedNode) (r : FetchRequest) (end : Option EpochEnd) (up : is_down m.state.mode ≡ false) where
  abbrev x : Node
  x = m.state

  abbrev place : ℕ
  place = place_for x.log end

  by_tests : cause_for c m.number x r ≡ first_tests (has_epoch c (mode_epoch x.mode)) (reconciles m.number x r.from r.life r.epoch r.offset r.last_epoch)
  by_tests = cause_at_once c m.number x r (has_epoch c (mode_epoch x.mode)) (reconciles m.number x r.from r.life r.epoch r.offset r.last_epoch) up refl refl

  pub refused_first : (refusal : Refusal) → cause_for c m.number x r ≡ Some refusal → diverging_cause c m r end ≡ Some refusal
  refused_first refusal e =
      tests_first (has_epoch c (mode_epoch x.mode)) (reconciles m.number x r.from r.life r.epoch r.offset r.last_epoch) (ltb place x.watermark) (not (is_boundary x.log place)) refusal (sym by_tests ∙ e)

  pub refused_how : (refusal : Refusal) → diverging_cause c m r end ≡ Some refusal
      → (cause_for c m.number x r ≡ Some refusal) ⊎ ((cause_for c m.number x r ≡ None) × ((ltb place x.watermark ≡ true) ⊎ (not (is_boundary x.log place) ≡ true)))
  refused_how refusal e =
      elim (tests_split (has_epoch c (mode_epoch x.mode)) (reconciles m.number x r.from r.life r.epoch r.offset r.last_epoch) (ltb place x.watermark) (not (is_boundary x.log place)) refusal e) [
        | inl first ↦ inl (by_tests ∙ first)
        | inr odd ↦ inr (by_tests ∙ odd.0, odd.1)
      ]

-- ---- the calls

-- where the letter isn't refused, the truncation's causes are left
pub by_truncation : (c : LeaderAndIsr) (m : NumberedNode) (r : FetchRequest) (end : Option EpochEnd) (p : Partition) (to : ℕ) → is_down m.state.mode ≡ false
    → cause_for c m.number m.state r ≡ None → p.log ≡ m.state.log → p.settled ≡ m.state.watermark → to ≡ place_for m.state.log end
    → diverging_cause c m r end ≡ truncate_cause p to
by_truncation c m r end p to up free log settled at =
    let x = m.state in
    let mine = reconciles m.number x r.from r.life r.epoch r.offset r.last_epoch in
    let parts = passed (not (has_epoch c (mode_epoch x.mode))) refusals.StaleRecord (first_of ((not mine, refusals.StaleAnswer) ∷ [])) (sym (by_tests c m r end up) ∙ free) in
    let own = passed (not mine) refusals.StaleAnswer None parts.1 in
    λ i. first_of ((parts.0 i, refusals.StaleRecord) ∷ (own.0 i, refusals.StaleAnswer) ∷ (ltb (sym at i) (sym settled i), refusals.BelowSettled) ∷ (not (is_boundary (sym log i) (sym at i)), refusals.NotBoundary) ∷ [])

-- who cuts follows
pub follower : (c : LeaderAndIsr) (n : ℕ) (x : Node) (r : FetchRequest) → cause_for c n x r ≡ None → (log : List Batch) → HasEpochs log x.mode × HasReports log x.mode
follower c n x r free log =
    let has = has_epoch c (mode_epoch x.mode) in
    let own = reconciles n x r.from r.life r.epoch r.offset r.last_epoch in
    let up = passed (is_down x.mode) refusals.Down (first_tests has own) free in
    let recorded = passed (not has) refusals.StaleRecord (first_of ((not own, refusals.StaleAnswer) ∷ [])) up.1 in
    let all = by_test own (passed (not own) refusals.StaleAnswer None recorded.1).0 in
    let but_life = and_parts _ _ all in
    let but_from = and_parts _ _ but_life.0 in
    follows x r.epoch r.offset r.last_epoch x.mode but_from.0 log
  where
    by_test : (t : Bool) → not t ≡ false → t ≡ true
    by_test true e = refl
    by_test false e = absurd cc

-- a truncation's refusal is the cut's
pub same_refusal : (cause other : Option Refusal) (refusal : Refusal) (result : Result CutBack Refusal) → cause ≡ other → IsRefusedOnlyBy {A = Tally} other (Err refusal) → result ≡ Err refusal
    → IsRefusedOnlyBy cause result
same_refusal cause other refusal result is refused same =
    let why : cause ≡ Some refusal = is ∙ only_cause Tally other refusal refused in
    subst (IsRefusedOnlyBy cause) (sym same) (subst (λ (o : Option Refusal). IsRefusedOnlyBy {A = CutBack} o (Err refusal)) (sym why) refl)

-- what is cut is what the letter comes to
pub cuts : (c : LeaderAndIsr) (n : ℕ) (x : Node) (r : FetchRequest) (end : Option EpochEnd) (log : List Batch) (to : ℕ) → cause_for c n x r ≡ None → to ≡ place_for x.log end
    → log ≡ below to x.log → becomes (record x { log = log }) (Cut to) ≡ cut c n x (diverging r end)
cuts c n x r end log to free at left =
    (λ i. becomes (record x { log = (left ∙ ap (λ (o : ℕ). below o x.log) at) i }) (Cut (at i)))
    ∙ sym (ap (λ (o : Option Refusal). cut_by o x (place_for x.log end)) free)

-- ---- what is left

-- a truncation that isn't refused
pub allowed : (p : Partition) (to : ℕ) (tally : Tally) → IsRefusedOnlyBy (truncate_cause p to) (Ok tally) → (p.settled ≤ to) × (is_boundary p.log to ≡ true)
allowed p to tally h =
    let free = only_none Tally (truncate_cause p to) tally h in
    let above = passed (ltb to p.settled) refusals.BelowSettled (if not (is_boundary p.log to) then Some refusals.NotBoundary else None) free in
    let at = passed (not (is_boundary p.log to)) refusals.NotBoundary None above.1 in
    (ltb-false to p.settled above.0, by_test (is_boundary p.log to) at.0)
  where
    by_test : (t : Bool) → not t ≡ false → t ≡ true
    by_test true e = refl
    by_test false e = absurd cc

-- a boundary at or below the cut stays one
pub boundary_stays : (log : List Batch) (offset to : ℕ) → IsLog log → IsBoundary log offset → IsBoundary log to → offset ≤ to → IsBoundary (below to log) offset
boundary_stays log offset to h b cut within =
    let left : below to log ≡ cut.front = ap (λ (o : ℕ). below o log) (sym cut.ends) ∙ below_boundary cut.front log h cut.begins in
    elim (Begins-agree b.begins cut.begins) [
      | inl shorter ↦ record { front = b.front; begins = subst (Begins b.front) (sym left) shorter; ends = b.ends }
      | inr longer ↦
          (let sum = end_of-append cut.front longer.rest in
          let whole : end_of b.front ≡ end_of (cut.front ++ longer.rest) = ap end_of (sym longer.is) in
          let same : end_of cut.front ≡ offset = omega (arith, sum, whole, b.ends, cut.ends, within) in
          record { front = cut.front; begins = subst (Begins cut.front) (sym left) (Begins-refl cut.front); ends = same })
    ]
