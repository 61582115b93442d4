-- Of a log's aborted transactions at most one of a producer's spans an offset, and it is the first of the producer's that ends above it.
use Rattle.std.proofs.Common.{◌≡◌, ℕ, ◌<◌, ◌&&◌, ◌||◌, Bool, true, false, eqb, leb, ltb, List, [], ◌∷◌, ◌++◌, Option, Some, None, refl, sym, ap, ◌∙◌, subst, arith, append_assoc, inl, inr}
use Rattle.std.specs.List.{AllByRecursion, cons_option, filter_map, list_any}
use Rattle.std.proofs.Math.Bool.{and-false}
use Rattle.std.proofs.lemmas.Bool.{and_parts, cases_Bool, eqb-true, lt-leb, ltb-true}
use Rattle.kp_model.specs.Log.{Batch, IsLog}
use Rattle.kp_model.specs.Transactions.{Aborted, aborted_by, aborted_in}
use Rattle.kp_visible.specs.Client.{spans}
use Rattle.kp_visible.proofs.Tests.{none_any}
use Rattle.kp_visible.proofs.Lists.{Splits, all_filter_map, all_splits}
use Rattle.kp_visible.proofs.Places.{Apart, log_apart}
use Rattle.kp_visible.proofs.Entries.{entry_is, entry_marks}
use Rattle.kp_visible.proofs.Holding.{BeginsAbove, begins_above, held, own_above}

-- behind one that ends above the offset, the producer's begin above it
abbrev AreAlone : ℕ → ℕ → List Aborted → Type 0
AreAlone producer offset [] = Unit {0}
AreAlone producer offset (a ∷ aborted) =
    (own_above producer offset a ≡ true → AllByRecursion (BeginsAbove producer offset) aborted) × AreAlone producer offset aborted

and_true_or : (b : Bool) → ((b && true) || false) ≡ b
and_true_or true = refl
and_true_or false = refl

spans_not : (producer offset : ℕ) (a : Aborted) → BeginsAbove producer offset a → spans producer offset a ≡ false
spans_not producer offset a above = elim (cases_Bool (eqb a.producer producer)) [
  | inl own ↦ let late : leb a.first offset ≡ false = lt-leb a.first offset (above (eqb-true a.producer producer own)) in rw (own, late) refl
  | inr other ↦ rw other refl
]

any_held : (producer offset : ℕ) (aborted : List Aborted) → AreAlone producer offset aborted → list_any (spans producer offset) aborted ≡ held aborted producer offset
any_held producer offset [] alone = refl
any_held producer offset (a ∷ aborted) alone = elim (cases_Bool (eqb a.producer producer)) [
  | inl own ↦ elim (cases_Bool (ltb offset a.marker)) [
    | inl above ↦
        let is : own_above producer offset a ≡ true = rw (own, above) refl in
        let later = none_any (spans producer offset) aborted (each_not aborted (alone.0 is)) in
        rw (own, above, later) (and_true_or (leb a.first offset))
    | inr ended ↦ rw (own, ended) (ap (λ (b : Bool). b || list_any (spans producer offset) aborted) (and-false (leb a.first offset)) ∙ any_held producer offset aborted alone.1)
  ]
  | inr other ↦ rw other (any_held producer offset aborted alone.1)
]
  where
    each_not : (xs : List Aborted) → AllByRecursion (BeginsAbove producer offset) xs → AllByRecursion (λ x. spans producer offset x ≡ false) xs
    each_not [] all = tt
    each_not (x ∷ xs) all = (spans_not producer offset x all.0, each_not xs all.1)

entries_alone : (producer offset : ℕ) (log front bs : List Batch) → log ≡ front ++ bs → Apart 0 log → AreAlone producer offset (filter_map (aborted_by log) bs)
entries_alone producer offset log front [] parts apart = tt
entries_alone producer offset log front (b ∷ bs) parts apart =
    by_entry (aborted_by log b) refl (entries_alone producer offset log (front ++ b ∷ []) bs (parts ∙ sym (append_assoc front (b ∷ []) bs)) apart)
  where
    later : (a : Aborted) → aborted_by log b ≡ Some a → own_above producer offset a ≡ true → (x : Batch) (y : Aborted) → Splits bs x → aborted_by log x ≡ Some y → BeginsAbove producer offset y
    later a e above x y s found =
        let i = entry_is log b a e in
        let tests = and_parts (eqb a.producer producer) (ltb offset a.marker) above in
        let high = ltb-true offset a.marker tests.1 in
        let at = i.marker in
        let late : offset < b.base = omega (arith, high, at) in
        begins_above front bs b producer offset (subst (Apart 0) parts apart) (entry_marks log b a producer i (eqb-true a.producer producer tests.0)) late x y s
        (ap (λ (l : List Batch). aborted_by l x) (sym parts) ∙ found)

    by_entry : (o : Option Aborted) → aborted_by log b ≡ o → AreAlone producer offset (filter_map (aborted_by log) bs) → AreAlone producer offset (cons_option o (filter_map (aborted_by log) bs))
    by_entry None e rest = rest
    by_entry (Some a) e rest = ((λ above. all_filter_map (aborted_by log) (Splits bs) (BeginsAbove producer offset) (later a e above) bs (all_splits bs)), rest)

-- so one of a log's list spans the offset where the first that ends above it holds it
pub any_spans : (log : List Batch) (producer offset : ℕ) → IsLog log → list_any (spans producer offset) (aborted_in log) ≡ held (aborted_in log) producer offset
unfolding aborted_in
any_spans log producer offset lawful = any_held producer offset (aborted_in log) (entries_alone producer offset log [] log refl (log_apart log lawful))
