-- What is known of each world of a run.
use Rattle.std.proofs.Common.{ℕ}
use Rattle.kp_model.specs.World.{World}
use Rattle.kp_model.specs.Run.{Run, IsOf}
use Rattle.kp_model.proofs.Kinship.Kin.{History}
use Rattle.kp_model.proofs.Safety.Held.{Sets}
use Rattle.kp_model.proofs.Safety.HeldOnto.{AllKept}
use Rattle.kp_model.proofs.Safety.HeldRuns.{run_is_held, was_held}

-- all facts of a world, with a history and sets for which they hold
pub record IsKnown (w : World) : Type 0 where
  pub history : History
  pub sets : Sets
  pub all : AllKept w history sets

pub known : (count : ℕ) (r : Run count) (w : World) → IsOf w r → IsKnown w
known count r w i =
    let was = was_held count r.moments (run_is_held count r.moments r.is_run) w i in record { history = was.history; sets = was.sets; all = was.all }
