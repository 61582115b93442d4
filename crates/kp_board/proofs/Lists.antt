-- A function with one value changed, and places of a list.
use Rattle.std.proofs.Common.{◌≡◌, ◌≢◌, ◌⊎◌, ℕ, zero, suc, ◌<◌, List, [], ◌∷◌, ◌++◌, length, inl, inr, ⊎_elim, refl, sym, ap, arith}
use Rattle.std.specs.Prelude.{slice_index_or}
use mathlib.Core.Logic.{dite}
use mathlib.Core.Option.{some, some-ne-none, some-injective}
use native.Mathlib.Decide.{ℕ_discrete}
use lib.ListN.{get_elem?}
use Rattle.kp_model.specs.Log.{Batch}

-- a function, with one value changed
pub put : (ℕ → ℕ) → ℕ → ℕ → ℕ → ℕ
put f k x j = dite (ℕ_discrete j k) (λ _. x) (λ _. f j)

pub put_here : (f : ℕ → ℕ) (k x : ℕ) → put f k x k ≡ x
unfolding put
put_here f k x = dite_yes (ℕ_discrete k k) refl
  where
    dite_yes : (c : Dec (k ≡ k)) → k ≡ k → dite c (λ _. x) (λ _. f k) ≡ x
    dite_yes (yes e) _ = refl
    dite_yes (no ne) e = absurd (ne e)

pub put_else : (f : ℕ → ℕ) (k x j : ℕ) → j ≢ k → put f k x j ≡ f j
unfolding put
put_else f k x j ne = dite_no (ℕ_discrete j k)
  where
    dite_no : (c : Dec (j ≡ k)) → dite c (λ _. x) (λ _. f j) ≡ f j
    dite_no (yes e) = absurd (ne e)
    dite_no (no _) = refl

pub at_inside : {A : Type 0} (l : List A) (i : ℕ) (a : A) → get_elem? l i ≡ some a → i < length l
at_inside [] i a e = absurd (some-ne-none a (sym e))
at_inside (x ∷ xs) zero a e = omega arith
at_inside (x ∷ xs) (suc i) a e = let h = at_inside xs i a e in omega arith

pub at_end : {A : Type 0} (l : List A) (a b : A) (j : ℕ) → get_elem? (l ++ a ∷ []) j ≡ some b → ((get_elem? l j ≡ some b) × (j < length l)) ⊎ ((j ≡ length l) × (a ≡ b))
at_end [] a b zero e = inr (refl, some-injective a b e)
at_end [] a b (suc j) e = absurd (some-ne-none b (sym e))
at_end (x ∷ xs) a b zero e = inl (e, omega arith)
at_end (x ∷ xs) a b (suc j) e = ⊎_elim (λ (t : (get_elem? xs j ≡ some b) × (j < length xs)). inl (t.0, let h = t.1 in omega arith)) (λ (t : (j ≡ length xs) × (a ≡ b)). inr (ap suc t.0, t.1)) (at_end xs a b j e)

-- a list cut at an element
pub record Cleft (xs : List Batch) (b : Batch) : Type 0 where
  pub front : List Batch
  pub rest : List Batch
  pub is : front ++ b ∷ rest ≡ xs

pub cleft : (xs : List Batch) (b : Batch) (i : ℕ) → i < length xs → slice_index_or xs i b ≡ b → Cleft xs b
cleft [] b i l e = absurd (omega arith)
cleft (x ∷ xs) b zero l e = record { front = []; rest = xs; is = ap (λ (z : Batch). z ∷ xs) (sym e) }
cleft (x ∷ xs) b (suc i) l e = let c = cleft xs b i (omega arith) e in record { front = x ∷ c.front; rest = c.rest; is = ap (λ (z : List Batch). x ∷ z) c.is }
