-- Elements of plain lists: what is true of each, and which is found first.
use Rattle.std.proofs.Common.{◌≡◌, ℕ, ◌++◌, Bool, true, false, List, [], ◌∷◌, Option, Some, None, refl, subst, inl, inr, cond, length, ap, ◌∙◌, arith}
use Rattle.std.proofs.lemmas.Bool.{cases_Bool, cond_both}
use Rattle.std.proofs.lemmas.List.Elements.{All-contains_itself, recursion_from_All}
use Rattle.std.specs.List.{AllByRecursion, filter, filter_map, find}
use Rattle.std.specs.Option.{option_or}
use Rattle.std.specs.Prelude.{Contains}

pub all_weaker : {X : Type 0} (P Q : X → Type 0) → ((x : X) → P x → Q x) → (xs : List X) → AllByRecursion P xs → AllByRecursion Q xs
all_weaker P Q f [] h = tt
all_weaker P Q f (x ∷ xs) h = (f x h.0, all_weaker P Q f xs h.1)

pub all_both : {X : Type 0} (P Q : X → Type 0) (xs : List X) → AllByRecursion P xs → AllByRecursion Q xs → AllByRecursion (λ x. P x × Q x) xs
all_both P Q [] h k = tt
all_both P Q (x ∷ xs) h k = ((h.0, k.0), all_both P Q xs h.1 k.1)

pub all_append : {X : Type 0} (P : X → Type 0) (xs ys : List X) → AllByRecursion P xs → AllByRecursion P ys → AllByRecursion P (xs ++ ys)
all_append P [] ys h k = k
all_append P (x ∷ xs) ys h k = (h.0, all_append P xs ys h.1 k)

pub all_front : {X : Type 0} (P : X → Type 0) (xs ys : List X) → AllByRecursion P (xs ++ ys) → AllByRecursion P xs
all_front P [] ys h = tt
all_front P (x ∷ xs) ys h = (h.0, all_front P xs ys h.1)

pub all_behind : {X : Type 0} (P : X → Type 0) (xs ys : List X) → AllByRecursion P (xs ++ ys) → AllByRecursion P ys
all_behind P [] ys h = h
all_behind P (x ∷ xs) ys h = all_behind P xs ys h.1

pub all_kept : {X : Type 0} (P : X → Type 0) (p : X → Bool) (xs : List X) → AllByRecursion P xs → AllByRecursion P (filter p xs)
all_kept P p [] all = tt
all_kept {X = X} P p (x ∷ xs) all =
    elim (p x) as (λ b. AllByRecursion P (cond b (x ∷ filter p xs) (filter p xs))) [ true ↦ (all.0, all_kept P p xs all.1) | false ↦ all_kept P p xs all.1 ]

pub all_filter : {X : Type 0} (p : X → Bool) (P : X → Type 0) (xs : List X) → AllByRecursion P xs → AllByRecursion (λ x. P x × (p x ≡ true)) (filter p xs)
all_filter p P [] h = tt
all_filter p P (x ∷ xs) h =
    cond_both (p x) (x ∷ filter p xs) (filter p xs) (AllByRecursion (λ x. P x × (p x ≡ true))) (λ e. ((h.0, e), all_filter p P xs h.1)) (λ e. all_filter p P xs h.1)

pub filter_agree_on : {X : Type 0} (P : X → Type 0) (p q : X → Bool) → ((x : X) → P x → p x ≡ q x) → (xs : List X) → AllByRecursion P xs → filter p xs ≡ filter q xs
filter_agree_on P p q h [] all = refl
filter_agree_on {X = X} P p q h (x ∷ xs) all =
    ap (λ (b : Bool). cond b (x ∷ filter p xs) (filter p xs)) (h x all.0) ∙ ap (λ (l : List X). cond (q x) (x ∷ l) l) (filter_agree_on P p q h xs all.1)

-- a list has each of its elements
pub all_itself : {X : Type 0} (xs : List X) → AllByRecursion (Contains xs) xs
all_itself xs = recursion_from_All (Contains xs) xs (All-contains_itself xs)

pub none_found : {X : Type 0} (p : X → Bool) (xs : List X) → AllByRecursion (λ x. p x ≡ false) xs → find p xs ≡ None
none_found p [] h = refl
none_found p (x ∷ xs) h = rw h.0 (none_found p xs h.1)

pub find-append : {X : Type 0} (p : X → Bool) (xs ys : List X) → find p (xs ++ ys) ≡ option_or (find p xs) (find p ys)
find-append p [] ys = refl
find-append p (x ∷ xs) ys = elim (cases_Bool (p x)) [
  | inl t ↦ rw t refl
  | inr f ↦ rw f (find-append p xs ys)
]

pub all_find : {X : Type 0} (p : X → Bool) (P : X → Type 0) (xs : List X) (y : X) → AllByRecursion P xs → find p xs ≡ Some y → P y × (p y ≡ true)
all_find p P [] y h e = absurd cc
all_find p P (x ∷ xs) y h e = elim (cases_Bool (p x)) [
  | inl t ↦
      let found : Some x ≡ Some y = rw t at e in
      let same : x ≡ y = cc in
      subst (λ z. P z × (p z ≡ true)) same (h.0, t)
  | inr f ↦ all_find p P xs y h.1 (rw f at e)
]

pub chosen_more : {X Y : Type 0} (f : X → Option Y) (Q : Y → Type 0) (x : X) (xs : List X) (o : Option Y) → f x ≡ o → ((y : Y) → o ≡ Some y → Q y) → AllByRecursion Q (filter_map f xs) → AllByRecursion Q (filter_map f (x ∷ xs))
chosen_more f Q x xs None e here rest = rw e rest
chosen_more f Q x xs (Some y) e here rest = rw e (here y refl, rest)

-- equal fronts of one length leave equal rests
pub fronts_apart : (s t x y : List ℕ) → length s ≡ length t → s ++ x ≡ t ++ y → (s ≡ t) × (x ≡ y)
fronts_apart [] [] x y l h = (refl, h)
fronts_apart [] (b ∷ t) x y l h = absurd (omega arith)
fronts_apart (a ∷ s) [] x y l h = absurd (omega arith)
fronts_apart (a ∷ s) (b ∷ t) x y l h =
    let tails : s ++ x ≡ t ++ y = cc in
    let e = fronts_apart s t x y (omega arith) tails in
    (cc, e.1)

pub all_push : {X : Type 0} (P : X → Type 0) (xs : List X) (x : X) → AllByRecursion P xs → P x → AllByRecursion P (xs ++ x ∷ [])
all_push P [] x all here = (here, tt)
all_push P (y ∷ ys) x all here = (all.0, all_push P ys x all.1 here)
