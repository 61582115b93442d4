-- Which numbers a list of places has.
use Rattle.std.proofs.Common.{◌≡◌, ℕ, zero, suc, ◌+◌, ◌<◌, Bool, true, false, eqb, List, [], ◌∷◌, get_or, refl, ap, ◌∙◌, arith}
use Rattle.std.proofs.lemmas.Bool.{eq-eqb, ne_eqb}
use Rattle.kp_model.specs.Controller.{is_member}
use Rattle.kp_model.specs.Set.{numbers_of}

-- none below the first one
pub none_below : (first : ℕ) (places : List Bool) (n : ℕ) → n < first → is_member n (numbers_of first places) ≡ false
none_below first [] n h = refl
none_below first (true ∷ bs) n h =
    let apart : eqb first n ≡ false = ne_eqb first n (omega arith) in
    rw apart (none_below (first + 1) bs n (omega arith))
none_below first (false ∷ bs) n h = none_below (first + 1) bs n (omega arith)

pub has_at : (first : ℕ) (places : List Bool) (k : ℕ) → is_member (first + k) (numbers_of first places) ≡ get_or places k false
has_at first [] k = refl
has_at first (true ∷ bs) zero =
    let same : eqb first (first + 0) ≡ true = eq-eqb first (first + 0) (omega arith) in rw same refl
has_at first (false ∷ bs) zero = none_below (first + 1) bs (first + 0) (omega arith)
has_at first (true ∷ bs) (suc k) =
    let apart : eqb first (first + suc k) ≡ false = ne_eqb first (first + suc k) (omega arith) in
    let there : first + suc k ≡ (first + 1) + k = omega arith in
    rw apart (ap (λ (n : ℕ). is_member n (numbers_of (first + 1) bs)) there ∙ has_at (first + 1) bs k)
has_at first (false ∷ bs) (suc k) =
    let there : first + suc k ≡ (first + 1) + k = omega arith in
    ap (λ (n : ℕ). is_member n (numbers_of (first + 1) bs)) there ∙ has_at (first + 1) bs k
