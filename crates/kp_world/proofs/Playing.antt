-- A run goes on, event by event.
use Rattle.std.proofs.Common.{◌≡◌, ◌≢◌, ℕ, leb, Bool, true, false, length, List, [], ◌∷◌, ◌++◌, Result, refl, sym, ap, ◌∙◌, subst, inl, inr}
use Rattle.std.specs.Prelude.{◌&&◌, map, reverse, Option, Some, None}
use Rattle.std.specs.List.{AllByRecursion}
use Rattle.std.proofs.lemmas.List.{append_assoc, append-nil, map-append, reverse-append}
use Rattle.kp_types.specs.declared.limits.Limits.{Limits}
use Rattle.kp_types.specs.declared.refusal.Refusal.{Refusal}
use Rattle.kp_types.specs.declared.refusal.Refusal.TheVariants as refusals
use Rattle.kp_model.specs.World.{LeaderAndIsr, World, Proposal, start}
use Rattle.kp_model.specs.Controller.{greatest_version, same_record}
use Rattle.kp_types.specs.Causes.{first_of}
use Rattle.kp_model.specs.Event.{Event, Elect, Acts, Deliver, Outcome, Refused, SentDecision}
use Rattle.kp_model.specs.Laws.{NoDeliveryIsRefusedOddly}
use Rattle.kp_model.specs.Run.{Moment, Run, IsRun, last, extend, IsSafe}
use Rattle.kp_model.specs.Step.{Step, DecidesBy, decide_cause, decided_on}
use Rattle.kp_model.proofs.OneStep.Classes.{arrives}
use Rattle.kp_model.proofs.InRuns.RunLaws.{last_is_of}
use Rattle.kp_world.specs.Answers.{outcome_of}
use Rattle.kp_world.specs.Events.{IsEvent, AreEvents}
use Rattle.kp_world.specs.declared.event.EventAnswer.{EventAnswer}
use Rattle.kp_world.specs.declared.event.Event.{Event as CodeEvent}
use Rattle.kp_world.specs.Plays.{AllFit, Fits, HaveReceipts, IsAnswered, IsReached, LeadOn, NoneLacks, PlaysFirst, SparesMemory, events_of, outcomes_of}
use Rattle.kp_world.specs.Shown.{HasReceipt, IsShown, Stage}

-- nothing has happened yet
pub reached_none : (count : ℕ) (limits : Limits) (stage : Stage) → IsShown limits stage (start count) → IsReached count limits [] [] stage
reached_none count limits stage shown =
    record { run = record { moments = []; is_run = tt }; events_are = refl; outcomes_are = refl; receipts = tt; spared = tt; shown = shown }

receipts-push : (moments : List Moment) (outcomes : List (Result EventAnswer Refusal)) (m : Moment) (outcome : Result EventAnswer Refusal) → HaveReceipts moments outcomes
    → HasReceipt m.event m.after outcome → HaveReceipts (moments ++ m ∷ []) (outcomes ++ outcome ∷ [])
receipts-push [] [] m outcome h one = (one, tt)
receipts-push [] (o ∷ os) m outcome h one = absurd h
receipts-push (x ∷ xs) [] m outcome h one = absurd h
receipts-push (x ∷ xs) (o ∷ os) m outcome h one = (h.0, receipts-push xs os m outcome h.1 one)

-- what has happened in a run, and what was answered
pub record Gone (count : ℕ) (es : List Event) (os : List (Result EventAnswer Refusal)) (r : Run count) : Type 0 where
  pub events_are : events_of r ≡ es
  pub outcomes_are : outcomes_of r ≡ map outcome_of os
  pub receipts : HaveReceipts (reverse r.moments) os
  pub spared : NoneLacks count r.moments

-- one event more
pub gone_more : (count : ℕ) (es : List Event) (os : List (Result EventAnswer Refusal)) (r : Run count) (e : Event) (o : Result EventAnswer Refusal) (after : World) (step : Step (last r) e (outcome_of o) after)
    → Gone count es os r → HasReceipt e after o → (SparesMemory (last r) e → (outcome_of o).reply ≢ Refused refusals.Memory)
    → Gone count (es ++ e ∷ []) (os ++ o ∷ []) (extend r e (outcome_of o) after step)
gone_more count es os r e o after step g receipt spared =
    let m : Moment = record { event = e; outcome = outcome_of o; after = after } in
    record {
      events_are =
          reverse-append (e ∷ []) (map (λ (m : Moment). m.event) r.moments) ∙ ap (λ (xs : List Event). xs ++ e ∷ []) g.events_are;
      outcomes_are =
          reverse-append (outcome_of o ∷ []) (map (λ (m : Moment). m.outcome) r.moments) ∙ ap (λ (xs : List Outcome). xs ++ outcome_of o ∷ []) g.outcomes_are
          ∙ sym (map-append outcome_of os (o ∷ []));
      receipts = subst (λ (ms : List Moment). HaveReceipts ms (os ++ o ∷ [])) (sym (reverse-append (m ∷ []) r.moments))
          (receipts-push (reverse r.moments) os m o g.receipts receipt);
      spared = (spared, g.spared);
    }

-- and what is shown of it
pub reached_more : (count : ℕ) (limits : Limits) (es : List Event) (os : List (Result EventAnswer Refusal)) (old new : Stage) (e : Event) (o : Result EventAnswer Refusal)
    (p : IsReached count limits es os old) (after : World) → Step (last p.run) e (outcome_of o) after → HasReceipt e after o
    → (SparesMemory (last p.run) e → (outcome_of o).reply ≢ Refused refusals.Memory) → IsShown limits new after
    → IsReached count limits (es ++ e ∷ []) (os ++ o ∷ []) new
reached_more count limits es os old new e o p after step receipt spared shown =
    let before : Gone count es os p.run = record { events_are = p.events_are; outcomes_are = p.outcomes_are; receipts = p.receipts; spared = p.spared } in
    let g = gone_more count es os p.run e o after step before receipt spared in
    record {
      run = extend p.run e (outcome_of o) after step;
      events_are = g.events_are;
      outcomes_are = g.outcomes_are;
      receipts = g.receipts;
      spared = g.spared;
      shown = shown;
    }

-- no events lead on to where the run is
pub lead_none : (limits : Limits) (stage : Stage) (es : List Event) (os : List (Result EventAnswer Refusal)) → es ≡ [] → os ≡ [] → LeadOn limits stage es os stage
lead_none limits stage es os no_events no_answers count before earlier p =
    subst (λ (xs : List Event). IsReached count limits xs (earlier ++ os) stage) (sym (ap (λ (xs : List Event). before ++ xs) no_events ∙ append-nil before))
    (subst (λ (xs : List (Result EventAnswer Refusal)). IsReached count limits before xs stage)
    (sym (ap (λ (xs : List (Result EventAnswer Refusal)). earlier ++ xs) no_answers ∙ append-nil earlier)) p)

-- and some events and then others, where both lead
pub lead_more : (limits : Limits) (old mid new : Stage) (es ds : List Event) (os qs : List (Result EventAnswer Refusal)) → LeadOn limits old es os mid → LeadOn limits mid ds qs new
    → LeadOn limits old (es ++ ds) (os ++ qs) new
lead_more limits old mid new es ds os qs first second count before earlier p =
    subst (λ (xs : List Event). IsReached count limits xs (earlier ++ (os ++ qs)) new) (append_assoc before es ds)
    (subst (λ (xs : List (Result EventAnswer Refusal)). IsReached count limits ((before ++ es) ++ ds) xs new) (append_assoc earlier os qs)
    (second count (before ++ es) (earlier ++ os) (first count before earlier p)))

-- the controller refuses a proposal for its version alone
pub only_full : (c : LeaderAndIsr) (p : Proposal) (refusal : Refusal) → decide_cause c p ≡ Some refusal → refusal ≡ refusals.RecordFull
only_full c p refusal e = by (same_record c p.known && leb greatest_version c.version) e
  where
    by : (t : Bool) → first_of ((t, refusals.RecordFull) ∷ []) ≡ Some refusal → refusal ≡ refusals.RecordFull
    by true e = cc
    by false e = absurd cc

-- no message of a run is out of place
fits : NoDeliveryIsRefusedOddly → (count : ℕ) (r : Run count) (event : Event) (outcome : Outcome) (new : World) → Step (last r) event outcome new → Fits event outcome.reply
fits odd count r (Elect n) outcome new step = tt
fits odd count r (Acts n act) outcome new step = tt
fits odd count r (Deliver number) outcome new step =
    elim (arrives (last r) number outcome new step) [
      | inl nobody ↦
          (let is : outcome.reply ≡ Refused refusals.StaleAnswer = ap (λ (o : Outcome). o.reply) nobody.0 in
          rw is ((λ e. cc), ((λ e. cc), ((λ e. cc), ((λ e. cc), ((λ e. cc), tt))))))
      | inr party ↦
          elim party [
            | inl controller ↦ decides controller.0 (decide_cause (last r).controller controller.0) refl controller.2
            | inr node ↦ odd count r (last r) (last_is_of count r) node.0 node.1 outcome new node.2
          ]
    ]
  where
    decides : (p : Proposal) (o : Option Refusal) → decide_cause (last r).controller p ≡ o → DecidesBy o (last r) p outcome new → Fits (Deliver number) outcome.reply
    decides p None e came =
        let is : outcome.reply ≡ SentDecision (decided_on (last r).controller p) = ap (λ (o : Outcome). o.reply) came.0 in
        rw is ((λ e. cc), ((λ e. cc), ((λ e. cc), ((λ e. cc), ((λ e. cc), tt)))))
    decides p (Some refusal) e came =
        let is : outcome.reply ≡ Refused refusals.RecordFull = ap (λ (o : Outcome). o.reply) came.0 ∙ ap Refused (only_full (last r).controller p refusal e) in
        rw is ((λ e. cc), ((λ e. cc), ((λ e. cc), ((λ e. cc), ((λ e. cc), tt)))))

pub all_fit : NoDeliveryIsRefusedOddly → (count : ℕ) (r : Run count) → AllFit r
all_fit odd count r = by r.moments r.is_run
  where
    by : (moments : List Moment) → IsRun count moments → AllByRecursion (λ (m : Moment). Fits m.event m.outcome.reply) moments
    by [] is_run = tt
    by (m ∷ past) is_run = (fits odd count (record { moments = past; is_run = is_run.1 }) m.event m.outcome m.after is_run.0, by past is_run.1)

-- what is reached is answered, safe, and in place
pub answered : (count : ℕ) (limits : Limits) (es : List Event) (os : List (Result EventAnswer Refusal)) (stage : Stage) → ((r : Run count) → IsSafe r) → NoDeliveryIsRefusedOddly
    → IsReached count limits es os stage → IsAnswered count es os
answered count limits es os stage safe odd p = record {
  played = record { run = p.run; events_are = p.events_are; outcomes_are = p.outcomes_are; safe = safe p.run; fits = all_fit odd count p.run; spared = p.spared };
  receipts = p.receipts;
}

pub nothing_answered : (count : ℕ) → ((r : Run count) → IsSafe r) → IsAnswered count [] []
nothing_answered count safe =
    let none : Run count = record { moments = []; is_run = tt } in
    record { played = record { run = none; events_are = refl; outcomes_are = refl; safe = safe none; fits = tt; spared = tt }; receipts = tt }

-- ---- the events of the definitions beside those of the code

-- one event more
pub record IsOneMore (max : ℕ) (events : List CodeEvent) (event : CodeEvent) (es : List Event) : Type 0 where
  pub front : List Event
  pub e : Event
  pub is : es ≡ front ++ e ∷ []
  pub fronts : AreEvents max events front
  pub one : IsEvent max event e

pub AreEvents-push : (max : ℕ) (events : List CodeEvent) (event : CodeEvent) (es : List Event) → AreEvents max (events ++ event ∷ []) es → IsOneMore max events event es
AreEvents-push max [] event [] h = absurd h
AreEvents-push max [] event (e ∷ []) h = record { front = []; e = e; is = refl; fronts = tt; one = h.0 }
AreEvents-push max [] event (e ∷ d ∷ es) h = absurd h.1
AreEvents-push max (x ∷ events) event [] h = absurd h
AreEvents-push max (x ∷ events) event (e ∷ es) h =
    let m = AreEvents-push max events event es h.1 in
    record { front = e ∷ m.front; e = m.e; is = ap (λ (xs : List Event). e ∷ xs) m.is; fronts = (h.0, m.fronts); one = m.one }

pub AreEvents-none : (max : ℕ) (es : List Event) → AreEvents max [] es → es ≡ []
AreEvents-none max [] h = refl
AreEvents-none max (e ∷ es) h = absurd h

-- ---- events that all have happened

pub record AllPlayed (old new : Stage) (events : List CodeEvent) (outcomes : List (Result EventAnswer Refusal)) : Type 0 where
  pub answered : length outcomes ≡ length events
  pub lead : (limits : Limits) (es : List Event) → AreEvents limits.max_batch events es → LeadOn limits old es outcomes new

pub all_played : (old new : Stage) (events left : List CodeEvent) (outcomes : List (Result EventAnswer Refusal)) → PlaysFirst old new events left outcomes → left ≡ []
    → AllPlayed old new events outcomes
all_played old new events left outcomes p none =
    let same : events ≡ p.first = p.events_are ∙ ap (λ (xs : List CodeEvent). p.first ++ xs) none ∙ append-nil p.first in
    subst (λ (xs : List CodeEvent). AllPlayed old new xs outcomes) (sym same) (record { answered = p.answered; lead = p.lead })
