-- What is true of each element of a list is true of each that is chosen from it.
use Rattle.std.proofs.Common.{◌≡◌, ℕ, zero, suc, Bool, true, List, [], ◌∷◌, take, Option, Some, refl, sym, subst}
use Rattle.std.specs.Prelude.{reverse}
use Rattle.std.specs.List.{AllByRecursion, filter_map, take_while}
use Rattle.std.proofs.lemmas.Bool.{cond_both}
use Rattle.std.proofs.lemmas.List.{reverse-append}
use Rattle.std.proofs.lemmas.List.Sums.{take_while-cons}
use Rattle.kp_types.proofs.Elements.{all_append, chosen_more}

pub all_reverse : {X : Type 0} (P : X → Type 0) (xs : List X) → AllByRecursion P xs → AllByRecursion P (reverse xs)
all_reverse P [] h = tt
all_reverse P (x ∷ xs) h =
    subst (AllByRecursion P) (sym (reverse-append (x ∷ []) xs)) (all_append P (reverse xs) (x ∷ []) (all_reverse P xs h.1) (h.0, tt))

pub all_take_while : {X : Type 0} (p : X → Bool) (P : X → Type 0) (xs : List X) → AllByRecursion P xs → AllByRecursion (λ x. P x × (p x ≡ true)) (take_while p xs)
all_take_while p P [] h = tt
all_take_while p P (x ∷ xs) h =
    subst (AllByRecursion (λ x. P x × (p x ≡ true))) (sym (take_while-cons p x xs))
    (cond_both (p x) (x ∷ take_while p xs) [] (AllByRecursion (λ x. P x × (p x ≡ true))) (λ e. ((h.0, e), all_take_while p P xs h.1)) (λ e. tt))

pub all_take : {X : Type 0} (P : X → Type 0) (n : ℕ) (xs : List X) → AllByRecursion P xs → AllByRecursion P (take n xs)
all_take P zero xs h = tt
all_take P (suc n) [] h = tt
all_take P (suc n) (x ∷ xs) h = (h.0, all_take P n xs h.1)

-- what came out of an element is what the function gives of it
pub record ComesFrom {X Y : Type 0} (f : X → Option Y) (P : X → Type 0) (y : Y) : Type 0 where
  pub element : X
  pub holds : P element
  pub gives : f element ≡ Some y

pub all_filter_map : {X Y : Type 0} (f : X → Option Y) (P : X → Type 0) (xs : List X) → AllByRecursion P xs → AllByRecursion (ComesFrom f P) (filter_map f xs)
all_filter_map f P [] h = tt
all_filter_map f P (x ∷ xs) h =
    chosen_more f (ComesFrom f P) x xs (f x) refl (λ y e. record { element = x; holds = h.0; gives = e }) (all_filter_map f P xs h.1)
