-- The run and one event more: a node's act, an election, a decision.
use Rattle.std.proofs.Common.{◌≡◌, ◌≢◌, ℕ, ◌+◌, ◌<◌, Bool, List, [], ◌∷◌, ◌++◌, length, Option, Some, None, refl, sym, subst, zero, suc, arith, ne_eqb}
use Rattle.std.specs.Prelude.{if◌then◌else◌, slice_get}
use Rattle.kp_types.specs.declared.refusal.Refusal.{Refusal}
use Rattle.kp_model.specs.World.{Decides, Message, Proposal, Proposes, World, with_message, with_record, IsSent}
use Rattle.kp_model.specs.Event.{Act, Acts, Changed, Deliver, Elect, Outcome, SentDecision}
use Rattle.kp_model.specs.Controller.{elected}
use Rattle.kp_model.specs.Effect.{Effect}
use Rattle.kp_model.specs.Local.{Local}
use Rattle.kp_model.specs.Step.{DecidesBy, Delivers, ElectsBy, IsGiven, Step, answered, decide_cause, decided_on, decision, elect_cause, moved, told}
use Rattle.kp_model.specs.Run.{Run, extend, last}
use Rattle.kp_model.proofs.InRuns.RunLaws.{count_stays, last_is_of}
use Rattle.kp_model.proofs.OneStep.Steps.{get_front}

-- ---- messages and nodes

pub sent_before : (messages sent : List Message) (l : Message) → IsSent messages l → IsSent (messages ++ sent) l
sent_before messages sent l s = (s.0, get_front messages sent s.0 l s.1)

pub sent_after : (messages sent : List Message) (l : Message) → IsSent sent l → IsSent (messages ++ sent) l
sent_after [] sent l e = e
sent_after (x ∷ messages) sent l e = let i = sent_after messages sent l e in (suc i.0, i.1)

-- a message of the front or of the rest, where the front has become another that has all its messages
pub sent_either : (old other more : List Message) (m : Message) → ((l : Message) → IsSent old l → IsSent other l) → IsSent (old ++ more) m → IsSent (other ++ more) m
sent_either [] other more m h t = sent_after other more m t
sent_either (l ∷ ls) other more m h (zero, t) = sent_before other more m (h m (zero, t))
sent_either (l ∷ ls) other more m h (suc i, t) = sent_either ls other more m (λ z u. h z (suc u.0, u.1)) (i, t)

pub moved_other : (w : World) (k j : ℕ) (e : Effect) → j ≢ k → (moved w k e).nodes j ≡ w.nodes j
moved_other w k j e ne = subst (λ (b : Bool). (if b then e.node else w.nodes j) ≡ w.nodes j) (sym (ne_eqb j k ne)) refl

-- ---- one event more

module _ {n : ℕ} (r : Run n) where
  -- a node's act
  abbrev pub acted : (k : ℕ) (act : Act) (e : Effect) → k < n → IsGiven (last r).messages act → Local (last r).controller k ((last r).nodes k) act e → Run n
  acted k act e inside given local =
      extend r (Acts k act) (answered (last r).messages e) (moved (last r) k e)
      (record { counted = (let z = count_stays n r (last r) (last_is_of n r) in omega arith); given = given; effect = e; local = local; outcome_is = refl; new_is = refl })

  abbrev pub election_step : (k : ℕ) → elect_cause (last r).controller k ≡ None → Step (last r) (Elect k) (told (Changed (elected (last r).controller k))) (with_record (last r) (elected (last r).controller k))
  election_step k free =
      subst (λ (o : Option Refusal). ElectsBy o (last r) k (told (Changed (elected (last r).controller k))) (with_record (last r) (elected (last r).controller k))) (sym free) (refl, refl)

  abbrev pub elected_run : (k : ℕ) → elect_cause (last r).controller k ≡ None → Run n
  elected_run k free =
      extend r (Elect k) (told (Changed (elected (last r).controller k))) (with_record (last r) (elected (last r).controller k)) (election_step k free)

  module _ (number : ℕ) (p : Proposal) (proposed : slice_get (last r).messages number ≡ Some (Proposes p)) (free : decide_cause (last r).controller p ≡ None) where
    abbrev pub told_so : Outcome
    told_so = record { reply = SentDecision (decided_on (last r).controller p); number = Some (length (last r).messages) }

    abbrev pub decided_world : World
    decided_world = with_message (with_record (last r) (decided_on (last r).controller p)) (Decides (decision (last r).controller p))

    abbrev pub decision_step : Step (last r) (Deliver number) told_so decided_world
    decision_step =
        subst (λ (o : Option Message). Delivers (last r) o told_so decided_world) (sym proposed)
        (subst (λ (o : Option Refusal). DecidesBy o (last r) p told_so decided_world) (sym free) (refl, refl))

    abbrev pub decided_run : Run n
    decided_run = extend r (Deliver number) told_so decided_world decision_step
