-- Of a log's list of aborted transactions, those that overlap batches stand between two places.
use Rattle.std.proofs.Common.{◌≡◌, ℕ, zero, suc, ◌<◌, ◌≤◌, ◌+◌, ◌-◌, Bool, true, false, leb, ltb, List, [], ◌∷◌, ◌++◌, length, take, drop, Some, Ok, Err, sym, ap, ◌∙◌, arith, append-nil, inl, inr}
use Rattle.std.specs.Prelude.{OnErr, Result, map, slice_get}
use Rattle.std.specs.List.{AllByRecursion, AllWithin, HoldsAt, filter}
use Rattle.std.proofs.Math.Bool.{and-false, and-true}
use Rattle.std.proofs.lemmas.Bool.{and_parts, cases_Bool, le-leb, leb-true, lt-leb, lt-ltb, le-ltb, leb-false, ltb-true, ltb-false}
use Rattle.std.proofs.lemmas.List.{take-append-drop}
use Rattle.std.proofs.lemmas.List.Elements.{filter-append}
use Rattle.kp_batch.specs.Batch.{Written}
use Rattle.kp_model.specs.Log.{logged, next_offset}
use Rattle.kp_model.specs.Transactions.{Aborted}
use Rattle.kp_visible.specs.Client.{end_after, overlapping, overlaps}
use Rattle.kp_visible.specs.Searched.{stops}
use Rattle.kp_visible.proofs.Lists.{filter_none}
use Rattle.kp_visible.proofs.Cutting.{all_taken}
use Rattle.kp_visible.proofs.Stopping.{BeginsStable}
use Rattle.kp_types.proofs.Elements.{all_weaker, filter_agree_on}

-- it began at the offset or below it
abbrev pub begun : ℕ → Aborted → Bool
begun last a = leb a.first last

-- ---- from the first on that ends at or above the start

all_dropped : {X : Type 0} (P : X → Type 0) (xs : List X) (n : ℕ) → AllWithin P xs n (length xs) → AllByRecursion P (drop n xs)
all_dropped P [] zero h = tt
all_dropped P [] (suc n) h = tt
all_dropped P (x ∷ xs) zero h = (h 0 x (omega arith) (omega arith), all_dropped P xs zero (λ k d from upto. h (suc k) d (omega arith) (omega (arith, upto))))
all_dropped P (x ∷ xs) (suc n) h = all_dropped P xs n (λ k d from upto. h (suc k) d (omega (arith, from)) (omega (arith, upto)))

same_end : (first last : ℕ) → ltb first (last + 1) ≡ leb first last
same_end first last = elim (cases_Bool (leb first last)) [
  | inl t ↦ let le = leb-true first last t in lt-ltb first (last + 1) (omega (arith, le)) ∙ sym t
  | inr f ↦ let gt = leb-false first last f in le-ltb first (last + 1) (omega (arith, gt)) ∙ sym f
]

pub behind_overlaps : (list : List Aborted) (start last from : ℕ) → AllWithin (λ a. ltb a.marker start ≡ true) list 0 from → AllWithin (λ a. ltb a.marker start ≡ false) list from (length list)
    → filter (begun last) (drop from list) ≡ filter (overlaps start (last + 1)) list
behind_overlaps list start last from before after =
    let out : (a : Aborted) → ltb a.marker start ≡ true → overlaps start (last + 1) a ≡ false = λ a e.
    let lt = ltb-true a.marker start e in
    let low : leb start a.marker ≡ false = lt-leb start a.marker lt in
    rw low (and-false (ltb a.first (last + 1))) in
    let in_there : (a : Aborted) → ltb a.marker start ≡ false → begun last a ≡ overlaps start (last + 1) a = λ a e.
    let ge = ltb-false a.marker start e in
    let high : leb start a.marker ≡ true = le-leb start a.marker ge in
    rw high (sym (and-true (ltb a.first (last + 1)) ∙ same_end a.first last)) in
    let none = filter_none (overlaps start (last + 1)) (take from list)
    (all_weaker (λ a. ltb a.marker start ≡ true) (λ a. overlaps start (last + 1) a ≡ false) out (take from list) (all_taken (λ a. ltb a.marker start ≡ true) list from before)) in
    filter_agree_on (λ a. ltb a.marker start ≡ false) (begun last) (overlaps start (last + 1)) in_there (drop from list) (all_dropped (λ a. ltb a.marker start ≡ false) list from after)
    ∙ ap (λ (l : List Aborted). l ++ filter (overlaps start (last + 1)) (drop from list)) (sym none)
    ∙ sym (filter-append (overlaps start (last + 1)) (take from list) (drop from list))
    ∙ ap (filter (overlaps start (last + 1))) (take-append-drop from list)

-- ---- up to the first behind which all began above the last offset

pub stable_drop : (n : ℕ) (list : List Aborted) → BeginsStable list → BeginsStable (drop n list)
stable_drop zero [] h = tt
stable_drop (suc n) [] h = tt
stable_drop zero (a ∷ list) h = h
stable_drop (suc n) (a ∷ list) h = stable_drop n list h.1

later_begin : (list : List Aborted) (last place : ℕ) → BeginsStable list → place < length list → HoldsAt (λ a. stops last a ≡ true) list place
    → AllByRecursion (λ a. begun last a ≡ false) (drop (suc place) list)
later_begin [] last place h within stopping = absurd (omega (arith, within))
later_begin (a ∷ list) last zero h within stopping =
    let high = ltb-true last a.stable (and_parts (ltb last a.marker) (ltb last a.stable) (stopping a)).1 in
    all_weaker (λ x. a.stable ≤ x.first) (λ x. begun last x ≡ false) (λ x le. lt-leb x.first last (omega (arith, le, high))) list h.0
later_begin (a ∷ list) last (suc place) h within stopping = later_begin list last place h.1 (omega (arith, within)) stopping

pub upto_begun : (list : List Aborted) (last place : ℕ) → BeginsStable list → place < length list → HoldsAt (λ a. stops last a ≡ true) list place
    → filter (begun last) (take (place + 1) list) ≡ filter (begun last) list
upto_begun list last place h within stopping =
    let next : place + 1 ≡ suc place = omega arith in
    let none = filter_none (begun last) (drop (suc place) list) (later_begin list last place h within stopping) in
    ap (λ (n : ℕ). filter (begun last) (take n list)) next
    ∙ sym (append-nil (filter (begun last) (take (suc place) list)))
    ∙ ap (λ (l : List Aborted). filter (begun last) (take (suc place) list) ++ l) (sym none)
    ∙ sym (filter-append (begun last) (take (suc place) list) (drop (suc place) list))
    ∙ ap (filter (begun last)) (take-append-drop (suc place) list)

-- ---- the offsets of the batches

last_ends : (offset : ℕ) (w : Written) (ws : List Written) (last : Written) → slice_get (w ∷ ws) (length ws) ≡ Some last → end_after offset (map logged (w ∷ ws)) ≡ next_offset (logged last)
last_ends offset w [] last e = let found : Some w ≡ Some last = e in let same : w ≡ last = cc in ap (λ (x : Written). next_offset (logged x)) same
last_ends offset w (v ∷ ws) last e = last_ends (next_offset (logged w)) v ws last e

pub overlapping_is : (ws : List Written) (first last : Written) (end : ℕ) → slice_get ws 0 ≡ Some first → slice_get ws (length ws - 1) ≡ Some last → end + 1 ≡ next_offset (logged last)
    → (aborted : List Aborted) → overlapping (map logged ws) aborted ≡ filter (overlaps first.base (end + 1)) aborted
overlapping_is [] first last end begins ends at aborted = absurd cc
overlapping_is (w ∷ ws) first last end begins ends at aborted =
    let found : Some w ≡ Some first = begins in
    let same : w ≡ first = cc in
    let count : suc (length ws) - 1 ≡ length ws = omega arith in
    let last_there : slice_get (w ∷ ws) (length ws) ≡ Some last = ap (slice_get (w ∷ ws)) (sym count) ∙ ends in
    ap (λ (x : Written). filter (overlaps x.base (end_after (next_offset (logged w)) (map logged ws))) aborted) same
    ∙ ap (λ (n : ℕ). filter (overlaps first.base n) aborted) (last_ends 0 w ws last last_there ∙ sym at)

-- ---- a failure

pub on_err : {A B : Type 0} (r : Result A B) (P : Type 0) → P → OnErr r P
on_err (Ok x) P holds = tt
on_err (Err e) P holds = holds
