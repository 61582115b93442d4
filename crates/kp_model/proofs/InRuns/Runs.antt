-- What a step keeps holds in each world of a run.
use Rattle.std.proofs.Common.{ℕ, List, [], ◌∷◌, sym, subst, inl, inr}
use Rattle.std.specs.List.{AllByRecursion}
use Rattle.kp_model.specs.Log.{IsLog}
use Rattle.kp_model.specs.World.{World, start}
use Rattle.kp_model.specs.Event.{Event, Outcome}
use Rattle.kp_model.specs.Step.{Step}
use Rattle.kp_model.specs.Run.{Moment, IsRun, Run, now, worlds, Among, IsOf}
use Rattle.kp_model.proofs.Kinship.SoundLogs.{WorldIsSound, sound_start, step_keeps}

pub among_each : (P : World → Type 0) (ws : List World) (w : World) → AllByRecursion P ws → Among w ws → P w
among_each P [] w h a = absurd a
among_each P (v ∷ vs) w h a = elim a [ inl same ↦ subst P (sym same) h.0 | inr older ↦ among_each P vs w h.1 older ]

module _ (P : World → Type 0) (count : ℕ) (first : P (start count)) (keeps : (w : World) (event : Event) (outcome : Outcome) (new : World) → P w → Step w event outcome new → P new) where
  pub holds_now : (moments : List Moment) → IsRun count moments → P (now count moments)
  holds_now [] r = first
  holds_now (m ∷ past) r = keeps (now count past) m.event m.outcome m.after (holds_now past r.1) r.0

  pub holds_each : (moments : List Moment) → IsRun count moments → AllByRecursion P (worlds count moments)
  holds_each [] r = (first, tt)
  holds_each (m ∷ past) r = (holds_now (m ∷ past) r, holds_each past r.1)

  pub holds_in : (r : Run count) (w : World) → IsOf w r → P w
  holds_in r w a = among_each P (worlds count r.moments) w (holds_each r.moments r.is_run) a

pub logs_are_logs : (count : ℕ) (r : Run count) (w : World) → IsOf w r → (n : ℕ) → IsLog (w.nodes n).log
logs_are_logs count r w a n = ((holds_in WorldIsSound count (sound_start count) step_keeps r w a).nodes n).log
