use Rattle.std.proofs.Common.{sym, subst}
use Rattle.kp_model.specs.Set.{record_of}
use Rattle.kp_model.specs.Event as model
use Rattle.kp_model.specs.Event.{Refused}
use Rattle.kp_replica.specs.Broker.{node_at}
use Rattle.kp_replica.specs.NumberedNode.{DoesUnder}
use Rattle.kp_replica.specs.declared.broker.Broker.{Broker}
use Rattle.kp_replica.proofs.Downs.{refuses_down}
use Rattle.kp_replica.proofs.broker.Broker.adopt.Goals as goal

pub returns-in-Down : goal.returns-in-Down
returns-in-Down c = λ within.
    let kept = c.in-Down.kept in
    let refusal = c.refusal.result in
    let r = record_of c.args.controller.now in
    subst (λ (b : Broker). DoesUnder r (node_at b) kept model.Adopt (Refused refusal)) (sym c.in-Down.is)
    (refuses_down r kept model.Adopt refusal c.refusal.ensures.down c.refusal.ensures.value tt)
