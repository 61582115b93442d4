-- A proposal comes to a node, and a decision.
use Rattle.std.proofs.Common.{◌≡◌, ℕ, ◌≤◌, List, Some, refl, sym, ap, subst, ◌∙◌, inr, arith}
use Rattle.std.specs.Prelude.{if◌then◌else◌}
use Rattle.kp_types.specs.declared.refusal.Refusal.{Refusal}
use Rattle.kp_types.specs.declared.refusal.Refusal.TheVariants as refusals
use Rattle.kp_model.specs.World.{LeaderAndIsr, Node, Proposal, Decision, Message, Decides}
use Rattle.kp_model.specs.Event.{Act, Receive, Reply, Refused}
use Rattle.kp_model.specs.Letter.{Proposing, Deciding, letter_of}
use Rattle.kp_model.specs.Effect.{becomes, is_down}
use Rattle.kp_model.specs.Local.{Local}
use Rattle.kp_model.specs.Run.{last}
use Rattle.kp_model.specs.Step.{IsGiven}
use Rattle.kp_model.proofs.OneStep.Steps.{was_refused}
use Rattle.kp_replica.specs.NumberedNode.{NumberedNode, Does}
use Rattle.kp_board.specs.Views.{NodeView}
use Rattle.kp_board.specs.Rule.{AreSent}
use Rattle.kp_board.specs.Premises.{MayStepUnder}
use Rattle.kp_node.specs.Calls.{IsMisplaced}
use Rattle.kp_node.proofs.Heard.{proposal_in, decision_in}
use Rattle.kp_node.proofs.Ties.{Tied}

-- ---- a proposal

pub turned_away : (m : NumberedNode) (sent : Message) (refusal : Refusal) → IsMisplaced sent → refusal ≡ (if is_down m.state.mode then refusals.Down else refusals.StaleAnswer)
    → Does m m (Receive sent) (Refused refusal)
turned_away m sent refusal misplaced is =
    λ c. (was_refused c m.number m.state (Receive sent) refusal (misplaced c m.number m.state ∙ ap Some (sym is)), (refl, refl))

pub proposal_misplaced : (sent : Message) (p : Proposal) → letter_of sent ≡ Proposing p → IsMisplaced sent
proposal_misplaced sent p letter = subst IsMisplaced (sym (proposal_in sent p letter)) (λ c n x. refl)

-- ---- a decision

-- what a call does that looks at no record, its pass may go along with under the one that it finds
pub may_go_under : (p : NodeView) (m m' : NumberedNode) (act : Act) (reply : Reply) → p.state ≡ m.state → p.number ≡ m.number → m.state.watermark ≤ p.published
    → ((messages : List Message) → AreSent messages p.told → IsGiven messages act) → Does m m' act reply → MayStepUnder p act (λ c. m'.state) (λ c. Unit {0})
may_go_under p m m' act reply state number low given does = record {
  given = given;
  local = λ n r shows.
      inr (reply, subst (λ (z : ℕ × Node). Local (last r).controller z.0 z.1 act (becomes m'.state reply)) (λ j. (sym number j, sym state j)) (does (last r).controller).0);
  mark = λ c. let same = ap (λ (x : Node). x.watermark) state in omega arith;
  known = λ n r shows. tt;
}

pub decided : (m m' : NumberedNode) (sent : Message) (d : Decision) (reply : Reply) → letter_of sent ≡ Deciding d → Does m m' (Receive (Decides d)) reply → Does m m' (Receive sent) reply
decided m m' sent d reply letter does = subst (λ (z : Message). Does m m' (Receive z) reply) (sym (decision_in sent d letter)) does

-- the node has become another, and another record was shown
pub tied_under : (words : ℕ) (p p' : NodeView) (m m' : NumberedNode) (c : LeaderAndIsr) → Tied words p m → m'.number ≡ m.number → m'.state.watermark ≤ p.published → p' ≡ record p { state = m'.state; shown = c } → Tied words p' m'
tied_under words p p' m m' c t number mark e =
    subst (λ (q : NodeView). Tied words q m') (sym e) (refl, t.1 ∙ sym number, mark, t.3)
