-- Nodes that are read back.
use Rattle.std.proofs.Common.{◌≡◌, ◌≢◌, ◌⊎◌, ℕ, ◌+◌, ◌-◌, ◌<◌, ◌≤◌, ◌^◌, List, [], ◌∷◌, ◌++◌, length, length-append, Option, Some, Result, Ok, Err, IfErr, OnErr, OnOk, refl, sym, ap, subst, inr, arith, ◌∙◌}
use mathlib.Core.Logic.{dite}
use native.Mathlib.Decide.{dec_le}
use Rattle.kp_types.specs.declared.refusal.Refusal.{Refusal}
use Rattle.kp_types.specs.declared.refusal.Refusal.TheVariants.{Memory}
use Rattle.kp_batch.specs.Batch.{Written}
use Rattle.kp_log.specs.BatchesIn.{AreBatchesIn}
use Rattle.kp_replica.specs.NumberedNode.{NumberedNode}
use Rattle.kp_replica.specs.ReadBack.{either_cause, read_back_cause}
use Rattle.kp_node.specs.Seats.{AreNumbered}
use Rattle.kp_handles.specs.Again.{KeepCalled}
use Rattle.kp_handles.specs.Left.{KeepsNode, KeepsNone, LeftView}
use Rattle.kp_handles.specs.Objects.{ObjectView, left}
use Rattle.kp_handles.specs.declared.left.KeptIn.{KeptIn}
use Rattle.kp_handles.specs.declared.misuse.Misuse.{Misuse}
use Rattle.kp_handles.specs.declared.misuse.Misuse.TheVariants.{OtherKind}

pub first_cause : (fault other : Option Refusal) (r : Refusal) → fault ≡ Some r → either_cause fault other ≡ Some r
first_cause fault other r is = ap (λ (f : Option Refusal). either_cause f other) is

-- a life that isn't the last one
pub lives_on : (n : ℕ) → n < 2 ^ 64 → n ≢ 2 ^ 64 - 1 → n + 1 < 2 ^ 64
lives_on n small apart = dite (dec_le (2 ^ 64) (n + 1)) (λ l. absurd (apart (omega arith))) (λ l. omega arith)

-- the bytes' first fault
pub faulty : (bytes : List ℕ) (k : KeptIn) (old : LeftView) (ws : List Written) (size : ℕ) (fault : Option Refusal) (r : Refusal)
    → k.life + 1 < 2 ^ 64 → AreBatchesIn old.limits.max_batch bytes ws size fault → fault ≡ Some r → (r ≡ Memory) ⊎ KeepsNone bytes k old r
faulty bytes k old ws size fault r lives are is = inr (inr (ws, size, fault, lives, are, first_cause fault (read_back_cause [] ws k.checkpoint) r is))

numbers_on : (k : ℕ) (xs : List NumberedNode) (x : NumberedNode) → AreNumbered k xs → x.number ≡ k + length xs → AreNumbered k (xs ++ x ∷ [])
numbers_on k [] x a e = (omega (arith, e), tt)
numbers_on k (y ∷ xs) x a e = (a.0, numbers_on (k + 1) xs x a.1 (omega (arith, e)))

-- a node more
pub numbered_more : (xs mid ys : List NumberedNode) (x : NumberedNode) → mid ≡ xs → ys ≡ mid ++ x ∷ [] → AreNumbered 0 xs → length xs < 7 → x.number ≡ length mid
    → AreNumbered 0 ys × (length ys ≤ 7)
numbered_more xs mid ys x same grown a few e =
    let whole : ys ≡ xs ++ x ∷ [] = grown ∙ ap (λ (l : List NumberedNode). l ++ x ∷ []) same in
    let long = ap (λ (l : List NumberedNode). length l) same in (
      subst (AreNumbered 0) (sym whole) (numbers_on 0 xs x a (omega (arith, e, long))),
      omega (arith, few, length-append xs (x ∷ []), ap (λ (l : List NumberedNode). length l) whole),
    )

-- ---- of an object

module _ (bytes : List ℕ) (k : KeptIn) (old new : ObjectView) where
  pub kept_as : (r s : Result (Result (Unit {0}) Refusal) Misuse) → r ≡ s → KeepCalled bytes k (Some old) (Some new) s → KeepCalled bytes k (Some old) (Some new) r
  kept_as r s e called = subst (KeepCalled bytes k (Some old) (Some new)) (sym e) called

  pub kept_by : (x y : LeftView) (answer : Result (Unit {0}) Refusal) → old ≡ left x → new ≡ left y → OnOk answer (KeepsNode bytes k x y)
      → IfErr answer (λ r. (r ≡ Memory) ⊎ KeepsNone bytes k x r) → OnErr answer (y ≡ x) → KeepCalled bytes k (Some old) (Some new) (Ok answer)
  kept_by x y (Ok done) was is kept refused same = (x, y, ap Some was, ap Some is, kept)
  kept_by x y (Err r) was is kept refused same = (ap Some (is ∙ ap (λ (z : LeftView). let o : ObjectView = left z in o) same ∙ sym was), x, ap Some was, refused)

  pub no_place : new ≡ old → ((x : LeftView) → old ≡ left x → ⊥) → KeepCalled bytes k (Some old) (Some new) (Err OtherKind)
  no_place same never = (ap Some same, (refl, λ x e. never x cc))
