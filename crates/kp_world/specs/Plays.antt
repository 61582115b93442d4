-- A run over events, with its answers.
use Rattle.std.specs.Prelude.{◌≡◌, ◌≢◌, ℕ, List, [], ◌∷◌, ◌++◌, length, map, reverse, slice_get, Option, Some, None, Result}
use Rattle.std.specs.List.{AllByRecursion}
use Rattle.kp_types.specs.declared.limits.Limits.{Limits}
use Rattle.kp_types.specs.declared.refusal.Refusal.{Refusal}
use Rattle.kp_types.specs.declared.refusal.Refusal.TheVariants.{Memory}
use Rattle.kp_model.specs.Event.{Event, Elect, Acts, Deliver, Receive, Outcome, Reply, Refused}
use Rattle.kp_model.specs.Laws.{odd_refusals}
use Rattle.kp_model.specs.Run.{Moment, Run, IsSafe, last, now}
use Rattle.kp_model.specs.World.{Message, World, addressee}
use Rattle.kp_replica.specs.Acts.{TakesNoMemory}
use Rattle.kp_world.specs.declared.event.Event.{Event as CodeEvent}
use Rattle.kp_world.specs.declared.event.EventAnswer.{EventAnswer}
use Rattle.kp_world.specs.Answers.{outcome_of}
use Rattle.kp_world.specs.Events.{AreEvents}
use Rattle.kp_world.specs.Shown.{HasReceipt, IsShown, Stage}

-- the events of the run, the oldest first
abbrev pub events_of : {count : ℕ} → Run count → List Event
events_of r = reverse (map (λ m. m.event) r.moments)

abbrev pub outcomes_of : {count : ℕ} → Run count → List Outcome
outcomes_of r = reverse (map (λ m. m.outcome) r.moments)

-- no message that comes is refused for an offset, a boundary or an epoch that doesn't fit
abbrev pub Fits : Event → Reply → Type 0
Fits (Deliver number) reply = AllByRecursion (λ refusal. reply ≡ Refused refusal → ⊥) odd_refusals
Fits _ reply = Unit {0}

abbrev pub AllFit : {count : ℕ} → Run count → Type 0
AllFit r = AllByRecursion (λ m. Fits m.event m.outcome.reply) r.moments

-- a message takes no memory where it comes: to this node, or to the controller, which never takes any
abbrev pub SparesAt : World → Message → Option ℕ → Type 0
SparesAt w m None = Unit {0}
SparesAt w m (Some n) = TakesNoMemory (w.nodes n) (Receive m)

-- the event takes no memory in this world: an ask, a change of the in-sync replicas that is asked for, a batch that comes twice,
-- a request that comes and is answered without batches, such an answer that comes, a proposal or a decision that comes (own rule)
abbrev pub SparesMemory : World → Event → Type 0
SparesMemory w (Elect n) = ⊥
SparesMemory w (Acts n act) = TakesNoMemory (w.nodes n) act
SparesMemory w (Deliver number) = (m : Message) × (slice_get w.messages number ≡ Some m) × SparesAt w m (addressee m)

-- no event that takes no memory is refused for want of it
abbrev pub NoneLacks : ℕ → List Moment → Type 0
NoneLacks count [] = Unit {0}
NoneLacks count (m ∷ past) =
    (SparesMemory (now count past) m.event → m.outcome.reply ≢ Refused Memory) × NoneLacks count past

-- A run of the definitions has these events and these answers; it is safe, no message that came in it was out of place, and
-- none of its events was refused for want of a memory that it doesn't take.
pub record IsPlayed (count : ℕ) (events : List Event) (outcomes : List Outcome) : Type 0 where
  pub run : Run count
  pub events_are : events_of run ≡ events
  pub outcomes_are : outcomes_of run ≡ outcomes
  pub safe : IsSafe run
  pub fits : AllFit run
  pub spared : NoneLacks count run.moments

-- the batch that a receipt names stands in its node's log once it is answered, at each moment, the oldest first
abbrev pub HaveReceipts : List Moment → List (Result EventAnswer Refusal) → Type 0
HaveReceipts [] [] = Unit {0}
HaveReceipts [] (outcome ∷ outcomes) = ⊥
HaveReceipts (m ∷ moments) [] = ⊥
HaveReceipts (m ∷ moments) (outcome ∷ outcomes) = HasReceipt m.event m.after outcome × HaveReceipts moments outcomes

-- Such a run, with the code's answers, each receipt of which names a batch that was appended in it.
pub record IsAnswered (count : ℕ) (events : List Event) (outcomes : List (Result EventAnswer Refusal)) : Type 0 where
  pub played : IsPlayed count events (map outcome_of outcomes)
  pub receipts : HaveReceipts (reverse played.run.moments) outcomes

-- Such a run, whose last world is shown.
pub record IsReached (count : ℕ) (limits : Limits) (events : List Event) (outcomes : List (Result EventAnswer Refusal)) (stage : Stage) : Type 0 where
  pub run : Run count
  pub events_are : events_of run ≡ events
  pub outcomes_are : outcomes_of run ≡ map outcome_of outcomes
  pub receipts : HaveReceipts (reverse run.moments) outcomes
  pub spared : NoneLacks count run.moments
  pub shown : IsShown limits stage (last run)

-- The events lead on with these answers: after whatever led to the old stage they lead to the new one.
abbrev pub LeadOn : Limits → Stage → List Event → List (Result EventAnswer Refusal) → Stage → Type 0
LeadOn limits old events outcomes new =
    (count : ℕ) (before : List Event) (earlier : List (Result EventAnswer Refusal)) → IsReached count limits before earlier old
    → IsReached count limits (before ++ events) (earlier ++ outcomes) new

-- Of these events the first ones have happened, with an answer each, and led from the old stage to the new one; the others
-- are left.
pub record PlaysFirst (old new : Stage) (events left : List CodeEvent) (outcomes : List (Result EventAnswer Refusal)) : Type 0 where
  pub first : List CodeEvent
  pub events_are : events ≡ first ++ left
  pub answered : length outcomes ≡ length first
  pub lead : (limits : Limits) (es : List Event) → AreEvents limits.max_batch first es → LeadOn limits old es outcomes new

-- Of these events the first ones have answers, one each, those of a run over them; the others are left.
pub record AnswersFirst (count max : ℕ) (events left : List CodeEvent) (outcomes : List (Result EventAnswer Refusal)) : Type 0 where
  pub first : List CodeEvent
  pub events_are : events ≡ first ++ left
  pub answered : length outcomes ≡ length first
  pub run : (es : List Event) → AreEvents max first es → IsAnswered count es outcomes
