-- Elements of lists: what is true of each, which are found first, and what stands in front of one and behind it.
use Rattle.std.proofs.Common.{◌≡◌, ℕ, zero, suc, ◌<◌, ◌≤◌, Bool, true, false, List, [], ◌∷◌, ◌++◌, length, get_or, Option, Some, None, refl, sym, ap, ◌∙◌, subst, arith, inl, inr}
use Rattle.std.specs.Prelude.{Contains}
use Rattle.std.specs.List.{AllByRecursion, AllWithin, filter, filter_map, find, flat_map}
use Rattle.std.proofs.lemmas.Bool.{cases_Bool}
use Rattle.kp_types.proofs.Elements.{all_weaker, all_append, find-append, chosen_more}

-- ---- what is true of each element

pub all_here : {X : Type 0} (P : X → Type 0) (front back : List X) (x : X) → AllByRecursion P (front ++ x ∷ back) → P x
all_here P [] back x h = h.0
all_here P (y ∷ ys) back x h = all_here P ys back x h.1

pub all_flat_map : {X Y : Type 0} (f : X → List Y) (P : X → Type 0) (Q : Y → Type 0) → ((x : X) → P x → AllByRecursion Q (f x)) → (xs : List X) → AllByRecursion P xs → AllByRecursion Q (flat_map f xs)
all_flat_map f P Q h [] all = tt
all_flat_map f P Q h (x ∷ xs) all = all_append Q (f x) (flat_map f xs) (h x all.0) (all_flat_map f P Q h xs all.1)

pub filter_all : {X : Type 0} (p : X → Bool) (xs : List X) → AllByRecursion (λ x. p x ≡ true) xs → filter p xs ≡ xs
filter_all p [] all = refl
filter_all {X = X} p (x ∷ xs) all = rw all.0 (ap (λ (l : List X). x ∷ l) (filter_all p xs all.1))

pub filter_none : {X : Type 0} (p : X → Bool) (xs : List X) → AllByRecursion (λ x. p x ≡ false) xs → filter p xs ≡ []
filter_none p [] all = refl
filter_none p (x ∷ xs) all = rw all.0 (filter_none p xs all.1)

-- ---- the first that passes

pub none_passes : {X : Type 0} (p : X → Bool) (xs : List X) → find p xs ≡ None → AllByRecursion (λ x. p x ≡ false) xs
none_passes p [] e = tt
none_passes p (x ∷ xs) e = elim (cases_Bool (p x)) [
  | inl t ↦ let found : Some x ≡ None = rw t at e in absurd cc
  | inr f ↦ (f, none_passes p xs (rw f at e))
]

pub find_behind : {X : Type 0} (p : X → Bool) (xs ys : List X) → find p xs ≡ None → find p (xs ++ ys) ≡ find p ys
find_behind p xs ys e = rw (find-append p xs ys, e) refl

-- what is found first: it passes, and none in front of it does
pub record Found {X : Type 0} (p : X → Bool) (xs : List X) (x : X) : Type 0 where
  pub front : List X
  pub back : List X
  pub is : xs ≡ front ++ x ∷ back
  pub passes : p x ≡ true
  pub before : AllByRecursion (λ y. p y ≡ false) front

pub found_first : {X : Type 0} (p : X → Bool) (xs : List X) (x : X) → find p xs ≡ Some x → Found p xs x
found_first p [] x e = absurd cc
found_first {X = X} p (y ∷ ys) x e = elim (cases_Bool (p y)) [
  | inl t ↦
      let found : Some y ≡ Some x = rw t at e in
      let same : y ≡ x = cc in
      record { front = []; back = ys; is = ap (λ (z : X). z ∷ ys) same; passes = subst (λ (z : X). p z ≡ true) same t; before = tt }
  | inr f ↦
      let rest = found_first p ys x (rw f at e) in
      record { front = y ∷ rest.front; back = rest.back; is = ap (λ (l : List X). y ∷ l) rest.is; passes = rest.passes; before = (f, rest.before) }
]

-- ---- answers for each element

-- what is true of each answer that an element gives
pub all_filter_map : {X Y : Type 0} (f : X → Option Y) (P : X → Type 0) (Q : Y → Type 0) → ((x : X) (y : Y) → P x → f x ≡ Some y → Q y) → (xs : List X) → AllByRecursion P xs → AllByRecursion Q (filter_map f xs)
all_filter_map f P Q h [] all = tt
all_filter_map f P Q h (x ∷ xs) all = chosen_more f Q x xs (f x) refl (λ y e. h x y all.0 e) (all_filter_map f P Q h xs all.1)

chosen_parts : {X Y : Type 0} (f : X → Option Y) (Q : Y → Type 0) (x : X) (xs : List X) (o : Option Y) → f x ≡ o → AllByRecursion Q (filter_map f (x ∷ xs))
    → ((y : Y) → f x ≡ Some y → Q y) × AllByRecursion Q (filter_map f xs)
chosen_parts f Q x xs None e all = ((λ y is. let none : None ≡ Some y = sym e ∙ is in absurd cc), rw e at all)
chosen_parts f Q x xs (Some z) e all =
    let both : Q z × AllByRecursion Q (filter_map f xs) = rw e at all in
    ((λ y is. let found : Some z ≡ Some y = sym e ∙ is in let same : z ≡ y = cc in subst Q same both.0), both.1)

-- what is true of each answer is true of what each element gives
pub all_chosen : {X Y : Type 0} (f : X → Option Y) (Q : Y → Type 0) (xs : List X) → AllByRecursion Q (filter_map f xs) → AllByRecursion (λ x. (y : Y) → f x ≡ Some y → Q y) xs
all_chosen f Q [] all = tt
all_chosen f Q (x ∷ xs) all =
    let parts = chosen_parts f Q x xs (f x) refl all in
    (parts.0, all_chosen f Q xs parts.1)

-- ---- what stands in front of an element and behind it

pub record Splits {X : Type 0} (xs : List X) (x : X) : Type 0 where
  pub front : List X
  pub back : List X
  pub is : xs ≡ front ++ x ∷ back

split_at : {X : Type 0} (xs : List X) (x : X) (k : ℕ) → k < length xs → get_or xs k x ≡ x → Splits xs x
split_at [] x k lt e = absurd (omega arith)
split_at {X = X} (y ∷ ys) x zero lt e = record { front = []; back = ys; is = ap (λ (z : X). z ∷ ys) e }
split_at {X = X} (y ∷ ys) x (suc k) lt e =
    let rest = split_at ys x k (omega arith) e in
    record { front = y ∷ rest.front; back = rest.back; is = ap (λ (l : List X). y ∷ l) rest.is }

pub splits : {X : Type 0} (xs : List X) (x : X) → Contains xs x → Splits xs x
splits xs x stands = split_at xs x stands.0 stands.1 stands.2

pub filter_split : {X : Type 0} (p : X → Bool) (front back : List X) (x : X) → p x ≡ true → filter p (front ++ x ∷ back) ≡ filter p front ++ x ∷ filter p back
filter_split p [] back x t = rw t refl
filter_split {X = X} p (y ∷ ys) back x t = elim (cases_Bool (p y)) [
  | inl own ↦ rw own (ap (λ (l : List X). y ∷ l) (filter_split p ys back x t))
  | inr f ↦ rw f (filter_split p ys back x t)
]

pub all_splits : {X : Type 0} (xs : List X) → AllByRecursion (Splits xs) xs
all_splits [] = tt
all_splits {X = X} (x ∷ xs) = (
  record { front = []; back = xs; is = refl },
  all_weaker (Splits xs) (Splits (x ∷ xs)) (λ y s. record { front = x ∷ s.front; back = s.back; is = ap (λ (l : List X). x ∷ l) s.is }) xs (all_splits xs),
)

-- ---- what is found first, by its place

pub find_at : {X : Type 0} (p : X → Bool) (xs : List X) (i : ℕ) (d : X) → AllWithin (λ x. p x ≡ false) xs 0 i → i < length xs → p (get_or xs i d) ≡ true → find p xs ≡ Some (get_or xs i d)
find_at p [] i d none within passes = absurd (omega (arith, within))
find_at p (x ∷ xs) zero d none within passes = rw passes refl
find_at p (x ∷ xs) (suc i) d none within passes =
    let first : p x ≡ false = none 0 x (omega arith) (omega arith) in
    rw first (find_at p xs i d (λ k e from upto. none (suc k) e (omega arith) (omega (arith, upto))) (omega (arith, within)) passes)

pub find_nothing : {X : Type 0} (p : X → Bool) (xs : List X) (n : ℕ) → AllWithin (λ x. p x ≡ false) xs 0 n → length xs ≤ n → find p xs ≡ None
find_nothing p [] n none over = refl
find_nothing p (x ∷ xs) zero none over = absurd (omega (arith, over))
find_nothing p (x ∷ xs) (suc n) none over =
    let first : p x ≡ false = none 0 x (omega arith) (omega arith) in
    rw first (find_nothing p xs n (λ k e from upto. none (suc k) e (omega arith) (omega (arith, upto))) (omega (arith, over)))
