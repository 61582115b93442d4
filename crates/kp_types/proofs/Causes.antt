-- Causes of refusals.
use Rattle.kp_types.specs.Causes.{IsRefusedBy, IsRefusedOnlyBy}
use Rattle.kp_types.specs.declared.refusal.Refusal.{Refusal}
use Rattle.std.specs.Prelude.{OnErr, Result}
use Rattle.std.proofs.Common.{◌≡◌, false, Bool, true, cond, Option, Some, None, refl, Ok, Err}

-- a test that didn't refuse
pub passed : (t : Bool) (r : Refusal) (others : Option Refusal) → cond t (Some r) others ≡ None → (t ≡ false) × (others ≡ None)
passed true r others e = absurd cc
passed false r others e = (refl, e)

pub no_cause : (A : Type 0) (cause : Option Refusal) (x : A) → IsRefusedBy cause (Ok x) → cause ≡ None
no_cause A None x h = refl
no_cause A (Some refusal) x h = absurd cc

pub only_cause : (A : Type 0) (cause : Option Refusal) (refusal : Refusal) → IsRefusedOnlyBy {A = A} cause (Err refusal) → cause ≡ Some refusal
only_cause A None refusal h = absurd h
only_cause A (Some other) refusal h = cc

pub only_none : (A : Type 0) (cause : Option Refusal) (x : A) → IsRefusedOnlyBy cause (Ok x) → cause ≡ None
only_none A None x h = refl
only_none A (Some refusal) x h = absurd cc

pub always : {T E P : Type 0} (r : Result T E) → P → OnErr r P
always (Ok x) p = tt
always (Err e) p = p

-- a refusal handed on, in place of another result
pub refused_alike : (A B : Type 0) (o : Option Refusal) (r : Refusal) → IsRefusedBy {A = A} o (Err r) → IsRefusedBy {A = B} o (Err r)
refused_alike A B (Some s) r h = cc
refused_alike A B None r h = h
