-- When the controller's record can't take another in-sync set.
use Rattle.std.specs.Prelude.{nat_le, [], ◌∷◌, Option}
use Rattle.kp_types.specs.Causes.{first_of}
use Rattle.kp_types.specs.declared.refusal.Refusal.{Refusal}
use Rattle.kp_types.specs.declared.refusal.Refusal.TheVariants as refusals
use Rattle.kp_model.specs.World.{LeaderAndIsr}
use Rattle.kp_model.specs.Controller.{greatest_version}

-- the version is at its greatest (own rule)
abbrev pub alter_cause : LeaderAndIsr → Option Refusal
alter_cause r = first_of ((nat_le greatest_version r.version, refusals.RecordFull) ∷ [])
