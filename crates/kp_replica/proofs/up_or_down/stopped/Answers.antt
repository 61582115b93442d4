use Rattle.std.proofs.Common.{sym, subst}
use Rattle.kp_model.specs.Event.{Refused, Stop, Stopped}
use Rattle.kp_replica.specs.Broker.{node_at}
use Rattle.kp_replica.specs.NumberedNode.{DoesUnder}
use Rattle.kp_replica.specs.declared.broker.Broker.{Broker}
use Rattle.kp_replica.proofs.Downs.{refuses_down}
use Rattle.kp_replica.proofs.up_or_down.stopped.Goals as goal

pub returns-in-Up-clause-event : goal.returns-in-Up-clause-event
returns-in-Up-clause-event c = λ r.
    subst (λ (b : Broker). DoesUnder r (node_at b) c.stop.result Stop Stopped) (sym c.in-Up.is) (c.stop.ensures.event r)

pub returns-in-Down-clause-event : goal.returns-in-Down-clause-event
returns-in-Down-clause-event c = λ r.
    let x = c.in-Down.kept in
    let refusal = c.refusal-refusal.result in
    subst (λ (b : Broker). DoesUnder r (node_at b) x Stop (Refused refusal)) (sym c.in-Down.is)
    (refuses_down r x Stop refusal c.refusal-refusal.ensures.down c.refusal-refusal.ensures.value tt)
