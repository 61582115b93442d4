-- Calls beside the events that they tell.
use Rattle.std.proofs.Common.{◌≡◌, ℕ, zero, suc, ◌<◌, List, [], ◌∷◌, refl, ap, length, get_or, arith}
use Rattle.std.specs.List.{AllByRecursion}
use Rattle.kp_model.specs.Event.{Event}
use Rattle.kp_script.specs.Call.{Call}
use Rattle.kp_script.specs.Told.{AreTold}

pub AreTold-length : (max : ℕ) (calls : List Call) (es : List Event) → AreTold max calls es → length calls ≡ length es
AreTold-length max [] [] h = refl
AreTold-length max [] (d ∷ es) h = absurd h
AreTold-length max (x ∷ calls) [] h = absurd h
AreTold-length max (x ∷ calls) (d ∷ es) h = ap suc (AreTold-length max calls es h.1)

-- the call at its place
pub each_at : (P : ℕ × Call → Type 0) (calls : List (ℕ × Call)) (k : ℕ) (d : ℕ × Call) → AllByRecursion P calls → k < length calls → P (get_or calls k d)
each_at P [] k d h inside = absurd (omega arith)
each_at P (call ∷ calls) zero d h inside = h.0
each_at P (call ∷ calls) (suc k) d h inside = each_at P calls k d h.1 (omega arith)
