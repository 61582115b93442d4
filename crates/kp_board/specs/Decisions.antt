-- What a decision on a proposal tells the caller's pass that it is made with (own rule, after KIP-497): it is one event of a run.
use Rattle.std.specs.Prelude.{◌≡◌, ℕ, if◌then◌else◌, [], ◌∷◌, Option, Some, None, slice_get}
use Rattle.atomic_table.specs.Table.{Me, Step as WordStep}
use Rattle.kp_types.specs.declared.refusal.Refusal.{Refusal}
use Rattle.kp_types.specs.declared.refusal.Refusal.TheVariants.{StaleAnswer}
use Rattle.kp_model.specs.World.{LeaderAndIsr, Proposal, Proposes, Decides, World, IsSent}
use Rattle.kp_model.specs.Event.{Outcome, Deliver}
use Rattle.kp_model.specs.Letter.{Letter, Proposing}
use Rattle.kp_model.specs.Controller.{same_record}
use Rattle.kp_model.specs.Step.{Step, decide_cause, decided_on, decision}
use Rattle.kp_model.specs.Run.{Run, last, extend}
use Rattle.kp_board.specs.Views.{CallerView, View, of_caller}
use Rattle.kp_board.specs.Rule.{IsOfRun, ShowsLastRecord}
use Rattle.kp_board.specs.Plays.{Finds}

-- ---- what a call can say of a run, which it can't name

-- The newest event of the run is the controller's decision on this proposal, which was sent before, under the old record; the
-- record is the decided one then, and the decision is sent.
pub record EndsDeciding {n : ℕ} (r : Run n) (p : Proposal) (old : LeaderAndIsr) : Type 0 where
  pub before : Run n
  pub number : ℕ
  pub outcome : Outcome
  pub after : World
  pub step : Step (last before) (Deliver number) outcome after
  pub is : r ≡ extend before (Deliver number) outcome after step
  pub proposed : slice_get (last before).messages number ≡ Some (Proposes p)
  pub old_is : (last before).controller ≡ old
  pub next_is : after.controller ≡ decided_on old p
  pub sent : IsSent after.messages (Decides (decision old p))

-- some run has all that this pass shows, and ends so
abbrev pub ShowsDecision : (p : Proposal) (old : LeaderAndIsr) → CallerView → Type 0
ShowsDecision p old x = (n : ℕ) × (r : Run n) × IsOfRun r x × EndsDeciding r p old

-- The pass after a decision on the proposal under this record: it is shown the record as it is then, and counts it where it
-- has changed.
abbrev pub deciding : LeaderAndIsr → Proposal → CallerView → CallerView
deciding c p x = record x {
  sent = Decides (decision c p) ∷ [];
  shown = decided_on c p;
  changes = if same_record c p.known then decided_on c p ∷ x.changes else x.changes;
}

-- ---- the step on word 0

abbrev pub unless_refused : Option Refusal → (next old : LeaderAndIsr) → LeaderAndIsr
unless_refused None next old = next
unless_refused (Some refusal) next old = old

-- the record after a decision on the proposal, and as it was where it would change but is full
abbrev pub record_after : LeaderAndIsr → Proposal → LeaderAndIsr
record_after c p = unless_refused (decide_cause c p) (decided_on c p) c

-- what a pass shows that was told of this proposal before: the decision on it, by one event of a run; or the record, as it was
abbrev pub ShowsAfter : Option Refusal → LeaderAndIsr → Proposal → CallerView → CallerView → Type 0
ShowsAfter None c p x y = (y ≡ deciding c p x) × ShowsDecision p c y
ShowsAfter (Some refusal) c p x y = (y ≡ record x { shown = c }) × ShowsLastRecord y

-- by one step on word 0, which found some record, that is not before the one that was shown
abbrev pub Decided : WordStep ℕ → Me ℕ View → ℕ → Me ℕ View → Type 0
Decided st m found m' = (x : CallerView) (p : Proposal) → m.0 ≡ of_caller x → x.sent ≡ Proposes p ∷ []
    → (c : LeaderAndIsr) × Finds x.shown c found × ((y : CallerView) × (m' ≡ (of_caller y, m.1)) × ShowsAfter (decide_cause c p) c p x y)

-- ---- refusals

-- Why a message isn't decided on, and what the pass x is then: it is no proposal, and nothing is shown; or the record, which is
-- shown, would change, but is full.
abbrev pub IsUndecided : Letter → (x y : CallerView) → Refusal → Type 0
IsUndecided (Proposing p) x y refusal = (decide_cause y.shown p ≡ Some refusal) × ShowsLastRecord y
IsUndecided _ x y refusal = (refusal ≡ StaleAnswer) × (y ≡ x)
