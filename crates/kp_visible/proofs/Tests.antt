-- Tests of lists: whether some element passes, and which a filter keeps.
use Rattle.std.proofs.Common.{◌≡◌, ℕ, zero, suc, ◌<◌, ◌&&◌, ◌||◌, Bool, true, false, cond, List, [], ◌∷◌, length, get_or, refl, sym, ap, ◌∙◌, subst, arith, inl, inr}
use Rattle.std.specs.Prelude.{Contains, map}
use Rattle.std.specs.List.{AllByRecursion, filter, list_any}
use Rattle.std.proofs.lemmas.Bool.{cases_Bool}
use Rattle.std.proofs.lemmas.List.Folds.{list_any_at}
use Rattle.kp_visible.proofs.Lists.{Splits, all_here}

-- ---- whether some element passes

pub none_any : {X : Type 0} (p : X → Bool) (xs : List X) → AllByRecursion (λ x. p x ≡ false) xs → list_any p xs ≡ false
none_any p [] none = refl
none_any p (x ∷ xs) none = rw none.0 (none_any p xs none.1)

pub any_agree : {X : Type 0} (p q : X → Bool) (xs : List X) → AllByRecursion (λ x. p x ≡ q x) xs → list_any p xs ≡ list_any q xs
any_agree p q [] all = refl
any_agree p q (x ∷ xs) all = ap (λ (b : Bool). b || list_any p xs) all.0 ∙ ap (λ (b : Bool). q x || b) (any_agree p q xs all.1)

pub any_filtered : {X : Type 0} (p q : X → Bool) (xs : List X) → list_any p (filter q xs) ≡ list_any (λ x. q x && p x) xs
any_filtered p q [] = refl
any_filtered p q (x ∷ xs) = elim (cases_Bool (q x)) [
  | inl t ↦ rw t (ap (λ (b : Bool). p x || b) (any_filtered p q xs))
  | inr f ↦ rw f (any_filtered p q xs)
]

pub any_mapped : {X Y : Type 0} (p : Y → Bool) (f : X → Y) (xs : List X) → list_any p (map f xs) ≡ list_any (λ x. p (f x)) xs
any_mapped p f [] = refl
any_mapped p f (x ∷ xs) = ap (λ (b : Bool). p (f x) || b) (any_mapped p f xs)

pub filter_twice : {X : Type 0} (p q : X → Bool) (xs : List X) → filter p (filter q xs) ≡ filter (λ x. q x && p x) xs
filter_twice p q [] = refl
filter_twice {X = X} p q (x ∷ xs) = elim (cases_Bool (q x)) [
  | inl t ↦ rw t (ap (λ (l : List X). cond (p x) (x ∷ l) l) (filter_twice p q xs))
  | inr f ↦ rw f (filter_twice p q xs)
]

pub any_either : {X : Type 0} (p q : X → Bool) (xs : List X) → (list_any p xs || list_any q xs) ≡ list_any (λ x. p x || q x) xs
any_either p q [] = refl
any_either p q (x ∷ xs) = by_tests (p x) (q x) (list_any p xs) (list_any q xs) ∙ ap (λ (b : Bool). (p x || q x) || b) (any_either p q xs)
  where
    by_tests : (a b c d : Bool) → ((a || c) || (b || d)) ≡ ((a || b) || (c || d))
    by_tests true b c d = refl
    by_tests false true true d = refl
    by_tests false true false d = refl
    by_tests false false c d = refl

pub each_agree : {X : Type 0} (p q : X → Bool) → ((x : X) → p x ≡ q x) → (xs : List X) → list_any p xs ≡ list_any q xs
each_agree p q same [] = refl
each_agree p q same (x ∷ xs) = ap (λ (b : Bool). b || list_any p xs) (same x) ∙ ap (λ (b : Bool). q x || b) (each_agree p q same xs)

pub contained_any : {X : Type 0} (p : X → Bool) (xs : List X) (x : X) → Contains xs x → p x ≡ true → list_any p xs ≡ true
contained_any {X = X} p xs x stands passes = list_any_at p xs stands.0 x stands.1 (subst (λ (y : X). p y ≡ true) (sym stands.2) passes)

-- ---- which are kept

pub passing_is_kept : {X : Type 0} (p : X → Bool) (xs : List X) (place : ℕ) (d : X) → place < length xs → p (get_or xs place d) ≡ true → ¬ (filter p xs ≡ [])
passing_is_kept p [] place d within passes none = absurd (omega (arith, within))
passing_is_kept p (x ∷ xs) zero d within passes none = let some : x ∷ filter p xs ≡ [] = rw passes at none in absurd cc
passing_is_kept p (x ∷ xs) (suc place) d within passes none = elim (cases_Bool (p x)) [
  | inl t ↦ let some : x ∷ filter p xs ≡ [] = rw t at none in absurd cc
  | inr f ↦ passing_is_kept p xs place d (omega (arith, within)) passes (rw f at none)
]

-- ---- what is true of each

pub all_at : {X : Type 0} (P : X → Type 0) (xs : List X) (x : X) → Splits xs x → AllByRecursion P xs → P x
all_at P xs x s all = all_here P s.front s.back x (subst (AllByRecursion P) s.is all)

pub all_map : {X Y : Type 0} (f : X → Y) (P : Y → Type 0) (xs : List X) → AllByRecursion (λ x. P (f x)) xs → AllByRecursion P (map f xs)
all_map f P [] all = tt
all_map f P (x ∷ xs) all = (all.0, all_map f P xs all.1)
