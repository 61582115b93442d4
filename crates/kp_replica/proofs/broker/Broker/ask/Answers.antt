use Rattle.std.proofs.Common.{sym, subst}
use Rattle.kp_model.specs.Event as model
use Rattle.kp_model.specs.Event.{Refused}
use Rattle.kp_replica.specs.Broker.{node_at}
use Rattle.kp_replica.specs.NumberedNode.{Does}
use Rattle.kp_replica.specs.declared.broker.Broker.{Broker}
use Rattle.kp_replica.proofs.Downs.{refuses_down}
use Rattle.kp_replica.proofs.broker.Broker.ask.Goals as goal

pub returns-in-Down-clause-refused : goal.returns-in-Down-clause-refused
returns-in-Down-clause-refused c =
    let kept = c.in-Down.kept in
    let refusal = c.refusal.result in
    subst (λ (b : Broker). Does (node_at b) (node_at b) model.Ask (Refused refusal)) (sym c.in-Down.is)
    (λ r. refuses_down r kept model.Ask refusal c.refusal.ensures.down c.refusal.ensures.value tt)
