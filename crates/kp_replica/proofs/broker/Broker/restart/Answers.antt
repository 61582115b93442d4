use Rattle.std.proofs.Common.{subst, sym}
use Rattle.kp_model.specs.Event.{Refused, Restart}
use Rattle.kp_replica.specs.Broker.{node_at}
use Rattle.kp_replica.specs.NumberedNode.{DoesUnder}
use Rattle.kp_replica.specs.declared.broker.Broker.{Broker}
use Rattle.kp_replica.proofs.Downs.{refuses_up}
use Rattle.kp_replica.proofs.broker.Broker.restart.Goals as goal

pub returns-in-Up-clause-event : goal.returns-in-Up-clause-event
returns-in-Up-clause-event c = λ r.
    let x = c.in-Up.replica in
    let refusal = c.refusal.result in
    subst (λ (b : Broker). DoesUnder r (node_at b) x Restart (Refused refusal)) (sym c.in-Up.is)
    (refuses_up r x refusal c.refusal.ensures.up c.refusal.ensures.value)
