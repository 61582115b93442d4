-- What a step sends: a follower's request, a leader's answer to a request that was sent, a leader's proposal, or the controller's
-- decision on one that was sent.
use Rattle.std.proofs.Common.{◌≡◌, ℕ, List, [], ◌∷◌, None, sym, subst, inl, inr}
use Rattle.std.specs.List.{AllByRecursion}
use Rattle.kp_model.specs.World.{Leading, Following, Leads, Follows, Node, Request, Proposal, Message, Asks, Answers, Proposes, Decides, World, IsSent}
use Rattle.kp_model.specs.Event.{Event, Outcome}
use Rattle.kp_model.specs.Fetching.{asked, answer, serve_cause}
use Rattle.kp_model.specs.InSync.{proposal}
use Rattle.kp_model.specs.Step.{Step, decision}
use Rattle.kp_model.specs.Run.{Moment, IsRun, now, worlds, Among}
use Rattle.kp_model.specs.Laws.{MessagesStay}
use Rattle.kp_model.proofs.OneStep.Steps.{get_front}
use Rattle.kp_model.proofs.OneStep.Classes.{step_cases, Acting, acting_class}
use Rattle.kp_model.proofs.OneStep.Parts.{SentPart, NoneIsSent, RequestIsSent, AnswerIsSent, ProposalIsSent, parts_of}
use Rattle.kp_types.proofs.Elements.{all_append}

module _ (Q : Message → Type 0) (messages : List Message) (n : ℕ) (x : Node)
    (asks : (f : Following) → x.mode ≡ Follows f → Q (Asks (asked n x f)))
    (serves : (r : Request) (l : Leading) → IsSent messages (Asks r) → x.mode ≡ Leads l → serve_cause x.log r l ≡ None → Q (Answers (answer x r)))
    (proposes : (isr : List ℕ) (l : Leading) → x.mode ≡ Leads l → Q (Proposes (proposal n l isr))) where
  part_sends : (sent : List Message) → SentPart messages n x sent → AllByRecursion Q sent
  part_sends sent (NoneIsSent is) = subst (AllByRecursion Q) (sym is) tt
  part_sends sent (RequestIsSent f mode is) = subst (AllByRecursion Q) (sym is) (asks f mode, tt)
  part_sends sent (AnswerIsSent r l mode given free is) = subst (AllByRecursion Q) (sym is) (serves r l given mode free, tt)
  part_sends sent (ProposalIsSent isr l mode may is) = subst (AllByRecursion Q) (sym is) (proposes isr l mode, tt)

pub acting_sends : (Q : Message → Type 0) (w new : World) (a : Acting w new)
    → ((n : ℕ) (f : Following) → (w.nodes n).mode ≡ Follows f → Q (Asks (asked n (w.nodes n) f)))
    → ((n : ℕ) (r : Request) (l : Leading) → IsSent w.messages (Asks r) → (w.nodes n).mode ≡ Leads l → serve_cause (w.nodes n).log r l ≡ None → Q (Answers (answer (w.nodes n) r)))
    → ((n : ℕ) (isr : List ℕ) (l : Leading) → (w.nodes n).mode ≡ Leads l → Q (Proposes (proposal n l isr)))
    → AllByRecursion Q a.effect.sent
acting_sends Q w new a asks serves proposes =
    part_sends Q w.messages a.node (w.nodes a.node) (asks a.node) (serves a.node) (proposes a.node) a.effect.sent (parts_of w.messages w.controller a.node (w.nodes a.node) a.act a.effect (acting_class w new a)).sent

-- what holds of all messages, and of each that may be sent, holds of all messages after a step
pub step_sends : (Q : Message → Type 0) (w : World) (event : Event) (outcome : Outcome) (new : World)
    → ((n : ℕ) (f : Following) → (w.nodes n).mode ≡ Follows f → Q (Asks (asked n (w.nodes n) f)))
    → ((n : ℕ) (r : Request) (l : Leading) → IsSent w.messages (Asks r) → (w.nodes n).mode ≡ Leads l → serve_cause (w.nodes n).log r l ≡ None → Q (Answers (answer (w.nodes n) r)))
    → ((n : ℕ) (isr : List ℕ) (l : Leading) → (w.nodes n).mode ≡ Leads l → Q (Proposes (proposal n l isr)))
    → ((p : Proposal) → IsSent w.messages (Proposes p) → Q (Decides (decision w.controller p)))
    → AllByRecursion Q w.messages → Step w event outcome new → AllByRecursion Q new.messages
step_sends Q w event outcome new asks serves proposes decides h s =
    elim (step_cases w event outcome new s) [
      | inl same ↦ subst (λ (v : World). AllByRecursion Q v.messages) (sym same) h
      | inr done ↦
          elim done [
            | inl e ↦
                elim e [
                  | inl chosen ↦ subst (λ (v : World). AllByRecursion Q v.messages) (sym chosen.new_is) h
                  | inr d ↦ subst (λ (v : World). AllByRecursion Q v.messages) (sym d.new_is) (all_append Q w.messages (Decides (decision w.controller d.asked) ∷ []) h (decides d.asked d.sent, tt))
                ]
            | inr a ↦
                subst (λ (v : World). AllByRecursion Q v.messages) (sym a.new_is)
                (all_append Q w.messages a.effect.sent h (acting_sends Q w new a asks serves proposes))
          ]
    ]

-- ---- what was sent stays sent

step_sent : (w : World) (event : Event) (outcome : Outcome) (new : World) (m : Message) → Step w event outcome new → IsSent w.messages m → IsSent new.messages m
step_sent w event outcome new m s sent =
    elim (step_cases w event outcome new s) [
      | inl same ↦ subst (λ (v : World). IsSent v.messages m) (sym same) sent
      | inr done ↦
          elim done [
            | inl e ↦
                elim e [
                  | inl chosen ↦ subst (λ (v : World). IsSent v.messages m) (sym chosen.new_is) sent
                  | inr d ↦ subst (λ (v : World). IsSent v.messages m) (sym d.new_is) (sent.0, get_front w.messages (Decides (decision w.controller d.asked) ∷ []) sent.0 m sent.1)
                ]
            | inr a ↦
                subst (λ (v : World). IsSent v.messages m) (sym a.new_is) (sent.0, get_front w.messages a.effect.sent sent.0 m sent.1)
          ]
    ]

sent_by_now : (count : ℕ) (moments : List Moment) → IsRun count moments → (w : World) → Among w (worlds count moments) → (m : Message) → IsSent w.messages m → IsSent (now count moments).messages m
sent_by_now count [] r w a m sent =
    elim a [ inl same ↦ subst (λ (v : World). IsSent v.messages m) same sent | inr none ↦ absurd none ]
sent_by_now count (p ∷ past) r w a m sent =
    elim a [
      | inl same ↦ subst (λ (v : World). IsSent v.messages m) same sent
      | inr older ↦ step_sent (now count past) p.event p.outcome p.after m r.0 (sent_by_now count past r.1 w older m sent)
    ]

pub sent_at_last : MessagesStay
sent_at_last count r w i m sent = sent_by_now count r.moments r.is_run w i m sent
