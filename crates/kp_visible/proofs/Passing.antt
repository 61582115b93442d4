-- What a search passed over stays so at a higher offset and from a later place; and what decides is the earlier of two.
use Rattle.std.proofs.Common.{◌≡◌, ℕ, zero, suc, ◌<◌, ◌≤◌, min, max, ◌&&◌, ◌||◌, Bool, true, false, eqb, leb, ltb, List, [], ◌∷◌, length, get_or, drop, refl, sym, ◌∙◌, arith, inl, inr}
use Rattle.std.specs.Prelude.{slice_get}
use Rattle.std.specs.List.{AllWithin, find}
use Rattle.std.proofs.lemmas.Bool.{cases_Bool, ltb-false, le-ltb, ltb-true, leb-true, leb-false}
use Rattle.kp_model.specs.Transactions.{Aborted}
use Rattle.kp_visible.specs.Filter.{decides}
use Rattle.kp_visible.specs.Searched.{IsFirstFrom, is_own, stops}

-- what doesn't stop a search at an offset doesn't at a higher one
stops_later : (low offset : ℕ) (a : Aborted) → low ≤ offset → stops low a ≡ false → stops offset a ≡ false
stops_later low offset a le none = elim (cases_Bool (ltb low a.marker)) [
  | inl above ↦
      let closed : ltb low a.stable ≡ false = rw above at none in
      let upto = ltb-false low a.stable closed in
      let still : ltb offset a.stable ≡ false = le-ltb offset a.stable (omega (arith, le, upto)) in
      rw still (and_false (ltb offset a.marker))
  | inr ended ↦
      let upto = ltb-false low a.marker ended in
      let still : ltb offset a.marker ≡ false = le-ltb offset a.marker (omega (arith, le, upto)) in
      rw still refl
]
  where
    and_false : (b : Bool) → (b && false) ≡ false
    and_false true = refl
    and_false false = refl

pub passed_later : (aborted : List Aborted) (low offset earlier place upto : ℕ) → low ≤ offset → earlier ≤ place
    → AllWithin (λ a. stops low a ≡ false) aborted earlier upto → AllWithin (λ a. stops offset a ≡ false) aborted place upto
passed_later aborted low offset earlier place upto higher further passed = λ k d from within.
    stops_later low offset (get_or aborted k d) higher (passed k d (omega (arith, further, from)) within)

-- a search that goes on behind what doesn't pass finds the same
find_past : {X : Type 0} (p : X → Bool) (xs : List X) (place further : ℕ) → place ≤ further → AllWithin (λ x. p x ≡ false) xs place further
    → find p (drop further xs) ≡ find p (drop place xs)
find_past p [] zero zero le none = refl
find_past p [] zero (suc further) le none = refl
find_past p [] (suc place) zero le none = refl
find_past p [] (suc place) (suc further) le none = refl
find_past p (x ∷ xs) zero zero le none = refl
find_past p (x ∷ xs) zero (suc further) le none =
    let first : p x ≡ false = none 0 x (omega arith) (omega arith) in
    rw first (find_past p xs zero further (omega arith) (λ k d from upto. none (suc k) d (omega arith) (omega arith)))
find_past p (x ∷ xs) (suc place) zero le none = absurd (omega arith)
find_past p (x ∷ xs) (suc place) (suc further) le none = find_past p xs place further (omega arith) (λ k d from upto. none (suc k) d (omega arith) (omega arith))

-- at one that passes it finds this one
find_here : {X : Type 0} (p : X → Bool) (xs : List X) (place : ℕ) → place < length xs → ((d : X) → p (get_or xs place d) ≡ true) → find p (drop place xs) ≡ slice_get xs place
find_here p [] place within passes = absurd (omega arith)
find_here p (x ∷ xs) zero within passes = rw (passes x) refl
find_here p (x ∷ xs) (suc place) within passes = find_here p xs place (omega arith) passes

-- behind the last it finds nothing
find_end : {X : Type 0} (p : X → Bool) (xs : List X) (place : ℕ) → length xs ≤ place → find p (drop place xs) ≡ slice_get xs place
find_end p [] zero past = refl
find_end p [] (suc place) past = refl
find_end p (x ∷ xs) zero past = absurd (omega arith)
find_end p (x ∷ xs) (suc place) past = find_end p xs place (omega arith)

find_first : {X : Type 0} (p : X → Bool) (xs : List X) (from first : ℕ) → IsFirstFrom p xs from first → find p (drop from xs) ≡ slice_get xs first
find_first p xs from first is = elim (cases_Bool (ltb first (length xs))) [
  | inl within ↦ sym (find_past p xs from first is.0 is.1) ∙ find_here p xs first (ltb-true first (length xs) within) (is.2 (ltb-true first (length xs) within))
  | inr past ↦ sym (find_past p xs from first is.0 is.1) ∙ find_end p xs first (ltb-false first (length xs) past)
]

-- one decides that is the producer's own or stops each search
either_decides : (producer offset : ℕ) (a : Aborted) → decides producer offset a ≡ (is_own producer offset a || stops offset a)
either_decides producer offset a = by_tests (ltb offset a.marker) (eqb a.producer producer) (ltb offset a.stable)
  where
    by_tests : (above own closed : Bool) → (above && (own || closed)) ≡ ((own && above) || (above && closed))
    by_tests true true true = refl
    by_tests true true false = refl
    by_tests true false true = refl
    by_tests true false false = refl
    by_tests false true true = refl
    by_tests false true false = refl
    by_tests false false true = refl
    by_tests false false false = refl

or_true : (b : Bool) → (b || true) ≡ true
or_true true = refl
or_true false = refl

-- at a place where a search stops, whoever it is for
pub stopping_here : (aborted : List Aborted) (producer offset place stopping : ℕ) → IsFirstFrom (stops offset) aborted place stopping → stopping ≡ place
    → find (decides producer offset) (drop place aborted) ≡ slice_get aborted place
stopping_here aborted producer offset place stopping first_stopping here =
    find_first (decides producer offset) aborted place place (
      omega arith,
      λ k d from upto. absurd (omega (arith, from, upto)),
      λ within d.
          let passes : stops offset (get_or aborted place d) ≡ true = rw here at (first_stopping.2 (omega (arith, here, within)) d) in
          either_decides producer offset (get_or aborted place d) ∙ rw passes (or_true (is_own producer offset (get_or aborted place d))),
    )

-- the first that decides is the earlier of the two
pub decides_first : (aborted : List Aborted) (producer offset place own stopping : ℕ) → IsFirstFrom (is_own producer offset) aborted place own → IsFirstFrom (stops offset) aborted place stopping
    → find (decides producer offset) (drop place aborted) ≡ slice_get aborted (min own stopping)
decides_first aborted producer offset place own stopping first_own first_stopping = find_first (decides producer offset) aborted place (min own stopping) (on, none, some)
  where
    own_from : place ≤ own
    own_from = first_own.0

    stopping_from : place ≤ stopping
    stopping_from = first_stopping.0

    on : place ≤ min own stopping
    on = omega (arith, own_from, stopping_from)

    none : AllWithin (λ a. decides producer offset a ≡ false) aborted place (min own stopping)
    none = λ k d from upto.
        let a = get_or aborted k d in
        let not_own : is_own producer offset a ≡ false = first_own.1 k d from (omega (arith, upto)) in
        let not_stopping : stops offset a ≡ false = first_stopping.1 k d from (omega (arith, upto)) in
        either_decides producer offset a ∙ rw (not_own, not_stopping) refl

    some : min own stopping < length aborted → (d : Aborted) → decides producer offset (get_or aborted (min own stopping) d) ≡ true
    some within d = elim (cases_Bool (leb own stopping)) [
      | inl t ↦
          let le = leb-true own stopping t in
          let at : min own stopping ≡ own = omega (arith, le) in
          let passes : is_own producer offset (get_or aborted own d) ≡ true = first_own.2 (omega (arith, within, at)) d in
          rw at (either_decides producer offset (get_or aborted own d) ∙ rw passes refl)
      | inr f ↦
          let gt = leb-false own stopping f in
          let at : min own stopping ≡ stopping = omega (arith, gt) in
          let passes : stops offset (get_or aborted stopping d) ≡ true = first_stopping.2 (omega (arith, within, at)) d in
          rw at (either_decides producer offset (get_or aborted stopping d) ∙ rw passes (or_true (is_own producer offset (get_or aborted stopping d))))
    ]

-- a search for a stopping one goes on where an earlier one ended
pub stopping_on : (aborted : List Aborted) (offset place earlier from stopping : ℕ) → from ≡ max earlier place → AllWithin (λ a. stops offset a ≡ false) aborted place earlier
    → IsFirstFrom (stops offset) aborted from stopping → IsFirstFrom (stops offset) aborted place stopping
stopping_on aborted offset place earlier from stopping at passed is =
    let on = is.0 in (
      omega (arith, at, on),
      λ k d low upto. elim (cases_Bool (ltb k earlier)) [
        | inl t ↦ passed k d low (ltb-true k earlier t)
        | inr f ↦ let high = ltb-false k earlier f in is.1 k d (omega (arith, at, low, high)) upto
      ],
      is.2,
    )
