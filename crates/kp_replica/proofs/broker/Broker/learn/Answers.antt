use Rattle.std.proofs.Common.{sym, subst}
use Rattle.kp_model.specs.Event.{Receive, Refused}
use Rattle.kp_model.specs.Letter.{decision_of}
use Rattle.kp_model.specs.World.{Decides}
use Rattle.kp_replica.specs.Broker.{node_at}
use Rattle.kp_replica.specs.NumberedNode.{Does}
use Rattle.kp_replica.specs.Replies.{learned_reply}
use Rattle.kp_replica.specs.declared.broker.Broker.{Broker}
use Rattle.kp_replica.proofs.Downs.{refuses_message}
use Rattle.kp_replica.proofs.broker.Broker.learn.Goals as goal

pub returns-in-Up-clause-event : goal.returns-in-Up-clause-event
returns-in-Up-clause-event c =
    subst (λ (b : Broker). Does (node_at b) c.learn.new.self (Receive (Decides (decision_of c.args.decision.now))) (learned_reply c.learn.result)) (sym c.in-Up.is) c.learn.ensures.event

pub returns-in-Down-clause-event : goal.returns-in-Down-clause-event
returns-in-Down-clause-event c =
    let kept = c.in-Down.kept in
    let refusal = c.refusal.result in
    subst (λ (b : Broker). Does (node_at b) kept (Receive (Decides (decision_of c.args.decision.now))) (Refused refusal)) (sym c.in-Down.is)
    (λ r. refuses_message r kept (Decides (decision_of c.args.decision.now)) refusal c.refusal.ensures.down c.refusal.ensures.value)
