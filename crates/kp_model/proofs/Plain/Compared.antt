-- Two sets compared place by place are compared number by number.
use Rattle.std.proofs.Common.{◌≡◌, ℕ, ◌+◌, ◌<◌, Bool, true, false, eqb, List, [], ◌∷◌, length, refl, sym, arith}
use Rattle.std.specs.Prelude.{bytes_eq}
use Rattle.std.specs.Cmp.Lexicographic.{pointwise}
use Rattle.std.proofs.Math.Bool.{beq}
use Rattle.std.proofs.lemmas.Bool.{eq-eqb, ne_eqb}
use Rattle.kp_model.specs.Set.{numbers_of}

-- a set of higher numbers doesn't begin with this one
not_first : (n first : ℕ) (ns : List ℕ) (places : List Bool) → n < first → bytes_eq (n ∷ ns) (numbers_of first places) ≡ false
not_first n first ns [] h = refl
not_first n first ns (true ∷ bs) h = let apart : eqb n first ≡ false = ne_eqb n first (omega arith) in rw apart refl
not_first n first ns (false ∷ bs) h = not_first n (first + 1) ns bs (omega arith)

not_second : (n first : ℕ) (ns : List ℕ) (places : List Bool) → n < first → bytes_eq (numbers_of first places) (n ∷ ns) ≡ false
not_second n first ns [] h = refl
not_second n first ns (true ∷ bs) h = let apart : eqb first n ≡ false = ne_eqb first n (omega arith) in rw apart refl
not_second n first ns (false ∷ bs) h = not_second n (first + 1) ns bs (omega arith)

pub compared : (first : ℕ) (places others : List Bool) → length places ≡ length others
    → pointwise beq places others ≡ bytes_eq (numbers_of first places) (numbers_of first others)
compared first [] [] h = refl
compared first [] (b ∷ bs) h = absurd (omega (arith, h))
compared first (a ∷ xs) [] h = absurd (omega (arith, h))
compared first (true ∷ xs) (true ∷ bs) h =
    let same : eqb first first ≡ true = eq-eqb first first refl in
    rw same (compared (first + 1) xs bs (omega arith))
compared first (true ∷ xs) (false ∷ bs) h = sym (not_first first (first + 1) (numbers_of (first + 1) xs) bs (omega arith))
compared first (false ∷ xs) (true ∷ bs) h = sym (not_second first (first + 1) (numbers_of (first + 1) bs) xs (omega arith))
compared first (false ∷ xs) (false ∷ bs) h = compared (first + 1) xs bs (omega arith)
