-- The place of a number, and what stands there.
use Rattle.std.proofs.Common.{◌≡◌, ℕ, zero, suc, Bool, true, false, List, [], ◌∷◌, Option, Some, None, refl, sym, ap, ◌∙◌, subst}
use Rattle.std.specs.Prelude.{◌==◌}
use Rattle.std.specs.List.{slice_get}
use Rattle.std.proofs.lemmas.Bool.{eqb-true, eqb-false}
use Rattle.kp_places.specs.Places.{place_of, AreApart, at, IsPlaced}

-- at a number's place it stands
pub place_here : (number : ℕ) (numbers : List ℕ) (place : ℕ) → place_of number numbers ≡ Some place → slice_get numbers place ≡ Some number
place_here number [] place is = absurd cc
place_here number (n ∷ ns) place is = go (λ later rest. place_here number ns later rest) (number == n) refl (place_of number ns) refl
  where
    go : ((later : ℕ) → place_of number ns ≡ Some later → slice_get ns later ≡ Some number)
        → (t : Bool) → (number == n) ≡ t → (o : Option ℕ) → place_of number ns ≡ o → slice_get (n ∷ ns) place ≡ Some number
    go others true same o rest =
        let first : Some 0 ≡ Some place = rw same at is in
        let zero_is : 0 ≡ place = cc in
        subst (λ (p : ℕ). slice_get (n ∷ ns) p ≡ Some number) zero_is (ap (λ (m : ℕ). Some m) (sym (eqb-true number n same)))
    go others false other None rest =
        let none : None ≡ Some place = rw (other, rest) at is in
        absurd cc
    go others false other (Some later) rest =
        let next : Some (suc later) ≡ Some place = rw (other, rest) at is in
        let is_next : suc later ≡ place = cc in
        subst (λ (p : ℕ). slice_get (n ∷ ns) p ≡ Some number) is_next (others later rest)

-- where a number stands, it has a place
pub place_there : (number : ℕ) (numbers : List ℕ) (place : ℕ) → slice_get numbers place ≡ Some number → place_of number numbers ≡ None → ⊥
place_there number [] place stands none = absurd cc
place_there number (n ∷ ns) zero stands none =
    let same : n ≡ number = cc in
    go (number == n) refl same
  where
    go : (t : Bool) → (number == n) ≡ t → n ≡ number → ⊥
    go true is same =
        let first : ◌≡◌ {A = Option ℕ} (Some 0) None = rw is at none in
        cc
    go false other same = eqb-false number n other (sym same)
place_there number (n ∷ ns) (suc place) stands none = go (place_there number ns place stands) (number == n) refl (place_of number ns) refl
  where
    go : (place_of number ns ≡ None → ⊥) → (t : Bool) → (number == n) ≡ t → (o : Option ℕ) → place_of number ns ≡ o → ⊥
    go others true same o rest =
        let first : ◌≡◌ {A = Option ℕ} (Some 0) None = rw same at none in
        cc
    go others false other None rest = others rest
    go others false other (Some later) rest =
        let next : Some (suc later) ≡ None = rw (other, rest) at none in
        cc

-- what leads to each number's place is its place
pub leads : (found : List (ℕ × ℕ)) (numbers : List ℕ) → IsPlaced found numbers → (number : ℕ) → at number found ≡ place_of number numbers
leads found numbers placed number = go (at number found) refl (place_of number numbers) refl
  where
    go : (o : Option ℕ) → at number found ≡ o → (p : Option ℕ) → place_of number numbers ≡ p → at number found ≡ place_of number numbers
    go o is (Some place) found_there = placed.there number place (place_here number numbers place found_there) ∙ sym found_there
    go None is None nowhere = is ∙ sym nowhere
    go (Some place) is None nowhere = absurd (place_there number numbers place (placed.here number place is) nowhere)

pub apart : (found : List (ℕ × ℕ)) (numbers : List ℕ) → IsPlaced found numbers → AreApart numbers
apart found numbers placed place number stands = sym (leads found numbers placed number) ∙ placed.there number place stands
