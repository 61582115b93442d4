-- In a log's list a transaction begins no lower than any earlier one left the last stable offset. So the search for a
-- producer's transaction may stop at one that left it above the offset.
use Rattle.std.proofs.Common.{◌≡◌, ℕ, ◌<◌, ◌≤◌, ◌&&◌, Bool, false, eqb, leb, ltb, List, [], ◌∷◌, ◌++◌, Option, Some, None, refl, sym, ap, ◌∙◌, subst, arith, append_assoc, inl, inr}
use Rattle.std.specs.List.{AllByRecursion, cons_option, filter_map}
use Rattle.std.proofs.lemmas.Bool.{cases_Bool, leb-true, leb-false, ltb-true}
use Rattle.kp_model.specs.Log.{Batch, IsLog, below, next_offset}
use Rattle.kp_model.specs.Transactions.{Aborted, aborted_by, aborted_in, open_of, stable}
use Rattle.kp_visible.specs.Filter.{hides}
use Rattle.kp_visible.proofs.Lists.{Splits, all_filter_map, all_here, all_splits}
use Rattle.kp_visible.proofs.Places.{Apart, IsApart, apart_filter, around, below_split, each_apart, log_apart, upto_split}
use Rattle.kp_visible.proofs.Entries.{IsEntry, entry_is}
use Rattle.kp_visible.proofs.Opening.{Opening, opening}
use Rattle.kp_visible.proofs.Stability.{stable_before, stable_within}
use Rattle.kp_visible.proofs.Holding.{held, none_held}
use Rattle.kp_types.proofs.Elements.{all_weaker}

-- each begins no lower than any in front of it left the last stable offset
abbrev pub BeginsStable : List Aborted → Type 0
BeginsStable [] = Unit {0}
BeginsStable (a ∷ aborted) = AllByRecursion (λ later. a.stable ≤ later.first) aborted × BeginsStable aborted

-- ---- a log's list

stable_same : (one other : List Batch) (offset : ℕ) → below offset one ≡ below offset other → stable one offset ≡ stable other offset
unfolding stable
stable_same one other offset same = rw same refl

-- a transaction that is open behind a batch began at or above the last stable offset there
opens_stable : (front behind : List Batch) (m : Batch) (producer first : ℕ) → Apart 0 (front ++ m ∷ behind) → open_of (front ++ m ∷ behind) producer ≡ Some first
    → stable (front ++ m ∷ behind) (next_offset m) ≤ first
opens_stable front behind m producer first apart opened = elim (cases_Bool (leb (next_offset o.batch) (next_offset m))) [
  | inl t ↦
      let least = stable_before o.front o.back o.batch producer (next_offset m) (subst (Apart 0) o.is apart) o.own o.unmarked (leb-true (next_offset o.batch) (next_offset m) t) in
      let low : stable log (next_offset m) ≤ o.batch.base = subst (λ (l : List Batch). stable l (next_offset m) ≤ o.batch.base) (sym o.is) least in
      omega (arith, low, begins)
  | inr f ↦
      let above = leb-false (next_offset o.batch) (next_offset m) f in
      let some = (around 0 front behind m apart).some in
      elim (all_here (IsApart m) o.front o.back o.batch (subst (AllByRecursion (IsApart m)) o.is (each_apart log m apart (record { front = front; back = behind; is = refl })))) [
        | inl same ↦ let ends : next_offset o.batch ≡ next_offset m = ap next_offset same in absurd (omega (arith, above, ends))
        | inr (inl lower) ↦ absurd (omega (arith, above, lower, some))
        | inr (inr higher) ↦ let within = stable_within log (next_offset m) apart in omega (arith, within, higher, begins)
      ]
]
  where
    log : List Batch
    log = front ++ m ∷ behind

    o : Opening log producer first
    o = opening log producer first opened

    begins : o.batch.base ≡ first
    begins = o.begins

-- the entry of a batch, and those of the batches behind it
entry_stable : (log front behind : List Batch) (m : Batch) (a : Aborted) → log ≡ front ++ m ∷ behind → Apart 0 log → IsEntry log m a
    → (x : Batch) (later : Aborted) → Splits behind x → aborted_by log x ≡ Some later → a.stable ≤ later.first
entry_stable log front behind m a parts apart i x later s e =
    let known = front ++ m ∷ s.front in
    let regrouped : log ≡ known ++ x ∷ s.back =
    parts ∙ ap (λ (l : List Batch). front ++ m ∷ l) s.is ∙ sym (append_assoc front (m ∷ s.front) (x ∷ s.back)) in
    let in_front : below x.base log ≡ known =
    ap (below x.base) regrouped ∙ below_split known s.back x (around 0 known s.back x (subst (Apart 0) regrouped apart)) in
    let opened : open_of known later.producer ≡ Some later.first = ap (λ (l : List Batch). open_of l later.producer) (sym in_front) ∙ (entry_is log x later e).opened in
    let known_apart : Apart 0 known = subst (Apart 0) in_front (apart_filter (λ y. leb (next_offset y) x.base) 0 log apart) in
    let upto : below (next_offset m) log ≡ below (next_offset m) known =
    ap (below (next_offset m)) parts ∙ upto_split front behind m (around 0 front behind m (subst (Apart 0) parts apart))
    ∙ sym (upto_split front s.front m (around 0 front s.front m known_apart)) in
    let least = opens_stable front s.front m later.producer later.first known_apart opened in
    let said : a.stable ≡ stable known (next_offset m) = i.stable_is ∙ stable_same log known (next_offset m) upto in
    omega (arith, said, least)

entries_stable : (log front bs : List Batch) → log ≡ front ++ bs → Apart 0 log → BeginsStable (filter_map (aborted_by log) bs)
entries_stable log front [] parts apart = tt
entries_stable log front (b ∷ bs) parts apart =
    by_entry (aborted_by log b) refl (entries_stable log (front ++ b ∷ []) bs (parts ∙ sym (append_assoc front (b ∷ []) bs)) apart)
  where
    by_entry : (o : Option Aborted) → aborted_by log b ≡ o → BeginsStable (filter_map (aborted_by log) bs) → BeginsStable (cons_option o (filter_map (aborted_by log) bs))
    by_entry None e rest = rest
    by_entry (Some a) e rest = (
      all_filter_map (aborted_by log) (Splits bs) (λ later. a.stable ≤ later.first) (entry_stable log front bs b a parts apart (entry_is log b a e)) bs (all_splits bs),
      rest,
    )

pub aborted_stable : (log : List Batch) → IsLog log → BeginsStable (aborted_in log)
unfolding aborted_in
aborted_stable log lawful = entries_stable log [] log refl (log_apart log lawful)

-- ---- the search stops

-- such a list hides what the first of the producer's own that ends above the offset holds
pub hides_held : (aborted : List Aborted) (producer offset : ℕ) → BeginsStable aborted → hides aborted producer offset ≡ held aborted producer offset
hides_held [] producer offset h = refl
hides_held (a ∷ aborted) producer offset h = elim (cases_Bool (ltb offset a.marker)) [
  | inl above ↦ elim (cases_Bool (eqb a.producer producer)) [
    | inl own ↦ rw (above, own) (ap (λ (b : Bool). b && leb a.first offset) own)
    | inr other ↦ elim (cases_Bool (ltb offset a.stable)) [
      | inl stops ↦
          let high = ltb-true offset a.stable stops in
          let later = all_weaker (λ x. a.stable ≤ x.first) (λ x. x.producer ≡ producer → offset < x.first) (λ x le same. omega (arith, high, le)) aborted h.0 in
          let none : held aborted producer offset ≡ false = none_held aborted producer offset later in
          rw (above, other, stops) (ap (λ (b : Bool). b && leb a.first offset) other ∙ sym none)
      | inr open_there ↦ rw (above, other, open_there) (hides_held aborted producer offset h.1)
    ]
  ]
  | inr ended ↦ elim (cases_Bool (eqb a.producer producer)) [
    | inl own ↦ rw (ended, own) (hides_held aborted producer offset h.1)
    | inr other ↦ rw (ended, other) (hides_held aborted producer offset h.1)
  ]
]
