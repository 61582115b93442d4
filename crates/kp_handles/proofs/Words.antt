-- A handle's word.
use Rattle.std.proofs.Common.{◌≡◌, ℕ, ◌<◌, ◌^◌, refl, lit<, ap, ◌∙◌, subst, sym}
use mathlib.Core.Bool.{Bool, true, false, not}
use lib.Dec.{eqb}
use Rattle.std.specs.Prelude.{Option, Some, None}
use Rattle.kp_handles.specs.Objects.{ObjectView, word_of, is_open}

pub word_fits : (x : Option ObjectView) → word_of x < 2 ^ 64
word_fits None = lit< tt
word_fits (Some o) = lit< tt

word_opens : (x : Option ObjectView) → not (eqb (word_of x) 0) ≡ is_open x
word_opens None = refl
word_opens (Some o) = refl

pub word_tells : (n : ℕ) (x : Option ObjectView) → n ≡ word_of x → not (eqb n 0) ≡ is_open x
word_tells n x e = ap (λ (m : ℕ). not (eqb m 0)) e ∙ word_opens x

when : Bool → Type 0
when true = Unit {0}
when false = ⊥

pub at_open : (x : Option ObjectView) → is_open x ≡ true → (o : ObjectView) × (x ≡ Some o)
unfolding when
at_open (Some o) e = (o, refl)
at_open None e = absurd (subst (λ (y : Bool). when y) (sym e) tt)
