-- When a call is refused.
use Rattle.std.specs.Prelude.{◌≡◌, Option, Some, None, Result, Ok, Err, Bool, List, [], ◌∷◌, if◌then◌else◌}
use Rattle.kp_types.specs.declared.refusal.Refusal.{Refusal}
use Rattle.kp_types.specs.declared.refusal.Refusal.TheVariants as refusals

-- the first test that holds, of tests with their refusals
abbrev pub first_of : List (Bool × Refusal) → Option Refusal
first_of [] = None
first_of (t ∷ ts) = if t.0 then Some t.1 else first_of ts

-- The call answers exactly this cause; where there is none it succeeds, or a growth was refused.
abbrev pub IsRefusedBy : {A : Type 0} → Option Refusal → Result A Refusal → Type 0
IsRefusedBy (Some refusal) result = result ≡ Err refusal
IsRefusedBy None (Ok x) = Unit {0}
IsRefusedBy None (Err refusal) = refusal ≡ refusals.Memory

-- The call answers exactly this cause, and succeeds where there is none: it takes no memory.
abbrev pub IsRefusedOnlyBy : {A : Type 0} → Option Refusal → Result A Refusal → Type 0
IsRefusedOnlyBy (Some refusal) result = result ≡ Err refusal
IsRefusedOnlyBy None (Ok x) = Unit {0}
IsRefusedOnlyBy None (Err refusal) = ⊥
