-- Small laws of runs: the start is in each, the count stays, and each version has one record.
use Rattle.std.proofs.Common.{◌≡◌, ◌⊎◌, ℕ, ◌<◌, List, [], ◌∷◌, refl, sym, ap, ◌∙◌, subst, arith, inl, inr}
use Rattle.std.proofs.lemmas.Bool.{cond_both}
use Rattle.kp_model.specs.Log.{Batch}
use Rattle.kp_model.specs.World.{LeaderAndIsr, Proposal, World, start}
use Rattle.kp_model.specs.Event.{Event, Outcome}
use Rattle.kp_model.specs.Controller.{same_record, altered}
use Rattle.kp_model.specs.Step.{Step, decided_on}
use Rattle.kp_model.specs.Run.{Moment, IsRun, Run, now, worlds, last, extend, Among, IsOf, WasAppended}
use Rattle.kp_model.specs.Laws.{RunsGoOn}
use Rattle.kp_model.proofs.OneStep.Classes.{step_cases}

-- the record stays, or its version rises
abbrev pub Onward : LeaderAndIsr → LeaderAndIsr → Type 0
Onward old new = (new ≡ old) ⊎ (old.version < new.version)

onward_trans : (a b c : LeaderAndIsr) → Onward a b → Onward b c → Onward a c
onward_trans a b c p q =
    elim p [
      | inl same ↦ subst (λ (x : LeaderAndIsr). Onward x c) same q
      | inr less ↦
          elim q [
            | inl same ↦ inr (subst (λ (x : LeaderAndIsr). a.version < x.version) (sym same) less)
            | inr more ↦ inr (omega arith)
          ]
    ]

-- a decision leaves the record, or raises its version
pub decided_onward : (c : LeaderAndIsr) (p : Proposal) → Onward c (decided_on c p)
decided_onward c p = cond_both (same_record c p.known) (altered c p.isr) c (Onward c) (λ e. inr (omega arith)) (λ e. inl refl)

-- a step keeps the count, and the record or a lower version
abbrev pub StepIsOnward : World → World → Type 0
StepIsOnward w new = (new.count ≡ w.count) × Onward w.controller new.controller

pub step_onward : (w : World) (event : Event) (outcome : Outcome) (new : World) → Step w event outcome new → StepIsOnward w new
step_onward w event outcome new s =
    elim (step_cases w event outcome new s) [
      | inl same ↦ subst (StepIsOnward w) (sym same) (refl, inl refl)
      | inr done ↦
          elim done [
            | inl e ↦
                elim e [
                  | inl chosen ↦ subst (StepIsOnward w) (sym chosen.new_is) (refl, inr (omega arith))
                  | inr d ↦ subst (StepIsOnward w) (sym d.new_is) (refl, decided_onward w.controller d.asked)
                ]
            | inr a ↦
                subst (StepIsOnward w) (sym a.new_is) (refl, inl refl)
          ]
    ]

start_among : (count : ℕ) (moments : List Moment) → Among (start count) (worlds count moments)
start_among count [] = inl refl
start_among count (m ∷ past) = inr (start_among count past)

pub start_is_of : (count : ℕ) (r : Run count) → IsOf (start count) r
start_is_of count r = start_among count r.moments

pub now_among : (count : ℕ) (moments : List Moment) → Among (now count moments) (worlds count moments)
now_among count [] = inl refl
now_among count (m ∷ past) = inl refl

pub last_is_of : (count : ℕ) (r : Run count) → IsOf (last r) r
last_is_of count r = now_among count r.moments

counts : (count : ℕ) (moments : List Moment) → IsRun count moments → (w : World) → Among w (worlds count moments) → w.count ≡ count
counts count [] r w a = elim a [ inl same ↦ ap (λ (v : World). v.count) same | inr none ↦ absurd none ]
counts count (m ∷ past) r w a =
    elim a [
      | inl same ↦
          ap (λ (v : World). v.count) same ∙ (step_onward (now count past) m.event m.outcome m.after r.0).0 ∙ counts count past r.1 (now count past) (now_among count past)
      | inr older ↦ counts count past r.1 w older
    ]

pub count_stays : (count : ℕ) (r : Run count) (w : World) → IsOf w r → w.count ≡ count
count_stays count r w a = counts count r.moments r.is_run w a

versions : (count : ℕ) (moments : List Moment) → IsRun count moments → (w : World) → Among w (worlds count moments) → Onward w.controller (now count moments).controller
versions count [] r w a = elim a [ inl same ↦ inl (ap (λ (v : World). v.controller) (sym same)) | inr none ↦ absurd none ]
versions count (m ∷ past) r w a =
    elim a [
      | inl same ↦ inl (ap (λ (v : World). v.controller) (sym same))
      | inr older ↦
          onward_trans w.controller (now count past).controller m.after.controller (versions count past r.1 w older)
          (step_onward (now count past) m.event m.outcome m.after r.0).1
    ]

pub one_record : (count : ℕ) (r : Run count) (w : World) → IsOf w r → (w.controller ≡ (last r).controller) ⊎ (w.controller.version < (last r).controller.version)
one_record count r w a = elim (versions count r.moments r.is_run w a) [ inl same ↦ inl (sym same) | inr less ↦ inr less ]

pub runs_go_on : RunsGoOn
runs_go_on count r event outcome new s = (extend r event outcome new s, refl)

-- what was appended in a run was appended in each longer one
pub appended_later : (count : ℕ) (r : Run count) (event : Event) (outcome : Outcome) (new : World) (s : Step (last r) event outcome new) (b : Batch) → WasAppended r b → WasAppended (extend r event outcome new s) b
appended_later count r event outcome new s b a = (a.0, a.1, inr a.2, a.3)
