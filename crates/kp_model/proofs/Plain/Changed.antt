-- The numbers of a list of places, of which one was set or taken out.
use Rattle.std.proofs.Common.{◌≡◌, ℕ, zero, suc, ◌+◌, ◌<◌, ◌≤◌, Bool, true, false, eqb, ltb, List, [], ◌∷◌, length, refl, sym, ap, arith}
use Rattle.std.specs.List.{filter}
use Rattle.std.proofs.Math.ListN.{set}
use Rattle.std.proofs.lemmas.Bool.{eq-eqb, ne_eqb, lt-ltb, le-ltb}
use Rattle.kp_model.specs.Controller.{with_member, without_member}
use Rattle.kp_model.specs.Set.{numbers_of}

-- all numbers are the first one's or above
none_below : (n first : ℕ) (places : List Bool) → n ≤ first → filter (λ x. ltb x n) (numbers_of first places) ≡ []
none_below n first [] h = refl
none_below n first (true ∷ bs) h =
    let here : ltb first n ≡ false = le-ltb first n h in rw here (none_below n (first + 1) bs (omega arith))
none_below n first (false ∷ bs) h = none_below n (first + 1) bs (omega arith)

all_above : (n first : ℕ) (places : List Bool) → n < first → filter (λ x. ltb n x) (numbers_of first places) ≡ numbers_of first places
all_above n first [] h = refl
all_above n first (true ∷ bs) h =
    let here : ltb n first ≡ true = lt-ltb n first h in
    rw here (ap (λ (l : List ℕ). first ∷ l) (all_above n (first + 1) bs (omega arith)))
all_above n first (false ∷ bs) h = all_above n (first + 1) bs (omega arith)

all_others : (n first : ℕ) (places : List Bool) → n < first → without_member n (numbers_of first places) ≡ numbers_of first places
all_others n first [] h = refl
all_others n first (true ∷ bs) h =
    let here : eqb first n ≡ false = ne_eqb first n (omega arith) in
    rw here (ap (λ (l : List ℕ). first ∷ l) (all_others n (first + 1) bs (omega arith)))
all_others n first (false ∷ bs) h = all_others n (first + 1) bs (omega arith)

-- ---- a place is set

set_first : (n first : ℕ) (places : List Bool) → n ≡ first → first ∷ numbers_of (first + 1) places ≡ with_member n (numbers_of (first + 1) places)
set_first n first places e =
    rw (none_below n (first + 1) places (omega arith), all_above n (first + 1) places (omega arith)) cc

pub with_place : (n first k : ℕ) (places : List Bool) → k < length places → n ≡ first + k
    → numbers_of first (set places k true) ≡ with_member n (numbers_of first places)
with_place n first k [] h e = absurd (omega arith)
with_place n first zero (true ∷ bs) h e =
    let low : ltb first n ≡ false = le-ltb first n (omega arith) in
    let high : ltb n first ≡ false = le-ltb n first (omega arith) in
    rw (low, high) (set_first n first bs (omega arith))
with_place n first zero (false ∷ bs) h e = set_first n first bs (omega arith)
with_place n first (suc k) (true ∷ bs) h e =
    let low : ltb first n ≡ true = lt-ltb first n (omega arith) in
    let high : ltb n first ≡ false = le-ltb n first (omega arith) in
    rw (low, high) (ap (λ (l : List ℕ). first ∷ l) (with_place n (first + 1) k bs (omega arith) (omega arith)))
with_place n first (suc k) (false ∷ bs) h e = with_place n (first + 1) k bs (omega arith) (omega arith)

-- ---- a place is taken out

pub without_place : (n first k : ℕ) (places : List Bool) → k < length places → n ≡ first + k
    → numbers_of first (set places k false) ≡ without_member n (numbers_of first places)
without_place n first k [] h e = absurd (omega arith)
without_place n first zero (true ∷ bs) h e =
    let here : eqb first n ≡ true = eq-eqb first n (omega arith) in
    rw here (sym (all_others n (first + 1) bs (omega arith)))
without_place n first zero (false ∷ bs) h e = sym (all_others n (first + 1) bs (omega arith))
without_place n first (suc k) (true ∷ bs) h e =
    let here : eqb first n ≡ false = ne_eqb first n (omega arith) in
    rw here (ap (λ (l : List ℕ). first ∷ l) (without_place n (first + 1) k bs (omega arith) (omega arith)))
without_place n first (suc k) (false ∷ bs) h e = without_place n (first + 1) k bs (omega arith) (omega arith)

-- a number that no place has
pub without_none : (n first : ℕ) (places : List Bool) → first + length places ≤ n → without_member n (numbers_of first places) ≡ numbers_of first places
without_none n first [] h = refl
without_none n first (true ∷ bs) h =
    let here : eqb first n ≡ false = ne_eqb first n (omega arith) in
    rw here (ap (λ (l : List ℕ). first ∷ l) (without_none n (first + 1) bs (omega arith)))
without_none n first (false ∷ bs) h = without_none n (first + 1) bs (omega arith)
