-- A replica is up.
use Rattle.std.proofs.Common.{◌≡◌, Option, Some, false, refl}
use Rattle.kp_types.specs.declared.refusal.Refusal.{Refusal}
use Rattle.kp_types.specs.declared.refusal.Refusal.TheVariants as refusals
use Rattle.kp_model.specs.World.{Leading as ModelLeading}
use Rattle.kp_model.specs.Effect.{is_down, unless_leads}
use Rattle.kp_replica.specs.declared.replica.Mode.{Mode}
use Rattle.kp_replica.specs.declared.replica.Leading.{Leading}
use Rattle.kp_replica.specs.declared.replica.Mode.TheVariants.{Idle, Leads, Follows}
use Rattle.kp_replica.specs.Modes.{mode_of}

pub is_up : (m : Mode) → is_down (mode_of m) ≡ false
is_up Idle = refl
is_up (Leads l) = refl
is_up (Follows f) = refl

-- what only a leader does is refused to all others
pub leads_not : (m : Mode) (cause : ModelLeading → Option Refusal) → ((l : Leading) → m ≡ Leads l → ⊥) → unless_leads (mode_of m) cause ≡ Some refusals.NotLeader
leads_not Idle cause h = refl
leads_not (Leads l) cause h = absurd (h l refl)
leads_not (Follows f) cause h = refl
