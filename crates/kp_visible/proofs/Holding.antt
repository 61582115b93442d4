-- The first of a producer's own aborted transactions that ends above a batch holds it where the batch's next marker is an
-- abort, and not where that is a commit.
use Rattle.std.proofs.Common.{◌≡◌, ℕ, ◌<◌, ◌≤◌, ◌&&◌, Bool, true, false, eqb, leb, ltb, ◌⊎◌, List, ◌∷◌, ◌++◌, Option, Some, None, refl, sym, ap, ◌∙◌, subst, arith, append_assoc, inl, inr}
use Rattle.std.specs.List.{AllByRecursion, filter_map, find, cons_option}
use Rattle.std.specs.Option.{option_map_or}
use Rattle.std.proofs.lemmas.Bool.{cases_Bool, eqb-true, eq-eqb, lt-ltb, le-ltb, le-leb, lt-leb, and_parts}
use Rattle.std.proofs.lemmas.List.Elements.{filter_map-append}
use Rattle.kp_model.specs.Log.{Batch, below, next_offset}
use Rattle.kp_model.specs.Producers.{content_of}
use Rattle.kp_model.specs.Transactions.{Aborted, aborted_by, aborted_in, is_abort, is_marker_of, open_of, stable}
use Rattle.kp_visible.proofs.Lists.{all_filter_map, all_splits, Splits, find_behind}
use Rattle.kp_visible.proofs.Places.{Apart, all_from, around, below_split}
use Rattle.kp_visible.proofs.Since.{opens_behind}
use Rattle.kp_visible.proofs.Entries.{entry_is, entry_marks, has_entry}
use Rattle.kp_types.proofs.Elements.{all_weaker, all_front, none_found, all_find}

-- the producer's, and its marker stands above the offset
abbrev pub own_above : ℕ → ℕ → Aborted → Bool
own_above producer offset a = eqb a.producer producer && ltb offset a.marker

-- the first of the producer's transactions that ends above the offset began at or below it
abbrev pub held : List Aborted → ℕ → ℕ → Bool
held aborted producer offset = option_map_or (λ a. leb a.first offset) (find (own_above producer offset) aborted) false

-- the batch stands no further than the offset, or is no marker of the producer's
abbrev pub IsPassed : ℕ → ℕ → Batch → Type 0
IsPassed producer offset x = (x.base ≤ offset) ⊎ (is_marker_of producer x ≡ false)

passed_over : (log : List Batch) (producer offset : ℕ) (x : Batch) (a : Aborted) → IsPassed producer offset x → aborted_by log x ≡ Some a → own_above producer offset a ≡ false
passed_over log producer offset x a passed e =
    let i = entry_is log x a e in
    let at = i.marker in
    elim (cases_Bool (eqb a.producer producer)) [
      | inl t ↦ rw t (elim passed [
        | inl near ↦ le-ltb offset a.marker (omega arith)
        | inr other ↦ let marks : true ≡ false = sym (entry_marks log x a producer i (eqb-true a.producer producer t)) ∙ other in absurd cc
      ])
      | inr f ↦ rw f refl
    ]

-- the entries of passed batches hold nothing
passed_hold : (log front behind : List Batch) (producer offset : ℕ) → AllByRecursion (IsPassed producer offset) front
    → held (filter_map (aborted_by log) (front ++ behind)) producer offset ≡ held (filter_map (aborted_by log) behind) producer offset
passed_hold log front behind producer offset passed =
    let none = none_found (own_above producer offset) (filter_map (aborted_by log) front)
    (all_filter_map (aborted_by log) (IsPassed producer offset) (λ a. own_above producer offset a ≡ false) (λ x a p e. passed_over log producer offset x a p e) front passed) in
    ap (λ (l : List Aborted). held l producer offset) (filter_map-append (aborted_by log) front behind)
    ∙ ap (λ (o : Option Aborted). option_map_or (λ a. leb a.first offset) o false)
    (find_behind (own_above producer offset) (filter_map (aborted_by log) front) (filter_map (aborted_by log) behind) none)

-- ---- the next marker is an abort

pub abort_holds : (front behind : List Batch) (m : Batch) (producer offset first : ℕ) → Apart 0 (front ++ m ∷ behind) → AllByRecursion (IsPassed producer offset) front
    → is_marker_of producer m ≡ true → is_abort (content_of m) ≡ true → open_of front producer ≡ Some first → first ≤ offset → offset < m.base
    → held (aborted_in (front ++ m ∷ behind)) producer offset ≡ true
unfolding aborted_in
abort_holds front behind m producer offset first apart passed marks aborts opened early late =
    let log = front ++ m ∷ behind in
    let in_front : below m.base log ≡ front = below_split front behind m (around 0 front behind m apart) in
    let open_there : open_of (below m.base log) producer ≡ Some first = ap (λ (l : List Batch). open_of l producer) in_front ∙ opened in
    let a : Aborted = record { producer = producer; first = first; marker = m.base; stable = stable log (next_offset m) } in
    let entry : aborted_by log m ≡ Some a = has_entry log m producer first marks aborts open_there in
    let own : eqb producer producer ≡ true = eq-eqb producer producer refl in
    let above : ltb offset m.base ≡ true = lt-ltb offset m.base late in
    let began : leb first offset ≡ true = le-leb first offset early in
    passed_hold log front (m ∷ behind) producer offset passed
    ∙ ap (λ (o : Option Aborted). held (cons_option o (filter_map (aborted_by log) behind)) producer offset) entry ∙ rw (own, above, began) refl

-- ---- the next marker is a commit

-- an entry of the producer's that ends above the offset began above it
abbrev pub BeginsAbove : ℕ → ℕ → Aborted → Type 0
BeginsAbove producer offset a = a.producer ≡ producer → offset < a.first

pub begins_above : (front behind : List Batch) (m : Batch) (producer offset : ℕ) → Apart 0 (front ++ m ∷ behind) → is_marker_of producer m ≡ true → offset < m.base
    → (x : Batch) (a : Aborted) → Splits behind x → aborted_by (front ++ m ∷ behind) x ≡ Some a → BeginsAbove producer offset a
begins_above front behind m producer offset apart marks late x a s e same =
    let log = front ++ m ∷ behind in
    let i = entry_is log x a e in
    let regrouped : log ≡ (front ++ m ∷ s.front) ++ x ∷ s.back =
    ap (λ (l : List Batch). front ++ m ∷ l) s.is ∙ sym (append_assoc front (m ∷ s.front) (x ∷ s.back)) in
    let whole : Apart 0 ((front ++ m ∷ s.front) ++ x ∷ s.back) = subst (Apart 0) regrouped apart in
    let in_front : below x.base log ≡ front ++ m ∷ s.front =
    ap (below x.base) regrouped ∙ below_split (front ++ m ∷ s.front) s.back x (around 0 (front ++ m ∷ s.front) s.back x whole) in
    let opened : open_of (front ++ m ∷ s.front) producer ≡ Some a.first =
    ap (λ (l : List Batch). open_of l producer) (sym in_front) ∙ ap (open_of (below x.base log)) (sym same) ∙ i.opened in
    let at = around 0 front behind m apart in
    let some = at.some in
    let after = all_front (λ y. next_offset m ≤ y.base) s.front (x ∷ s.back) (subst (AllByRecursion (λ y. next_offset m ≤ y.base)) s.is (all_from (next_offset m) behind at.behind)) in
    opens_behind producer offset a.first front s.front m marks (all_weaker (λ y. next_offset m ≤ y.base) (λ y. offset < y.base) (λ y h. omega arith) s.front after) opened

pub none_held : (entries : List Aborted) (producer offset : ℕ) → AllByRecursion (BeginsAbove producer offset) entries → held entries producer offset ≡ false
none_held entries producer offset all = by_found (find (own_above producer offset) entries) refl
  where
    by_found : (o : Option Aborted) → find (own_above producer offset) entries ≡ o → option_map_or (λ a. leb a.first offset) o false ≡ false
    by_found None e = refl
    by_found (Some a) e =
        let found = all_find (own_above producer offset) (BeginsAbove producer offset) entries a all e in
        let tests = and_parts (eqb a.producer producer) (ltb offset a.marker) found.1 in
        lt-leb a.first offset (found.0 (eqb-true a.producer producer tests.0))

pub commit_holds_nothing : (front behind : List Batch) (m : Batch) (producer offset : ℕ) → Apart 0 (front ++ m ∷ behind) → AllByRecursion (IsPassed producer offset) front
    → is_marker_of producer m ≡ true → is_abort (content_of m) ≡ false → offset < m.base → held (aborted_in (front ++ m ∷ behind)) producer offset ≡ false
unfolding aborted_in
commit_holds_nothing front behind m producer offset apart passed marks commits late =
    let log = front ++ m ∷ behind in
    let entry : aborted_by log m ≡ None = rw commits refl in
    passed_hold log front (m ∷ behind) producer offset passed
    ∙ ap (λ (o : Option Aborted). held (cons_option o (filter_map (aborted_by log) behind)) producer offset) entry
    ∙ none_held (filter_map (aborted_by log) behind) producer offset
    (all_filter_map (aborted_by log) (Splits behind) (BeginsAbove producer offset) (begins_above front behind m producer offset apart marks late) behind (all_splits behind))
