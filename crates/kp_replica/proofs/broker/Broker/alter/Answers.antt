use Rattle.std.proofs.Common.{sym, subst}
use Rattle.kp_model.specs.Event as model
use Rattle.kp_model.specs.Event.{Refused}
use Rattle.kp_replica.specs.Broker.{node_at}
use Rattle.kp_replica.specs.Altering.{change_act}
use Rattle.kp_replica.specs.NumberedNode.{Does}
use Rattle.kp_replica.specs.declared.altering.IsrChange.{IsrChange}
use Rattle.kp_replica.specs.declared.altering.IsrChange.TheVariants.{Join, Leave}
use Rattle.kp_replica.specs.declared.broker.Broker.{Broker}
use Rattle.kp_replica.proofs.Downs.{refuses_down}
use Rattle.kp_replica.proofs.broker.Broker.alter.Goals as goal

pub returns-in-Down-clause-event : goal.returns-in-Down-clause-event
returns-in-Down-clause-event c =
    let kept = c.in-Down.kept in
    subst (λ (b : Broker). Does (node_at b) kept (change_act c.args.change) (Refused c.refusal.result)) (sym c.in-Down.is) (by_change c.args.change)
  where
    by_change : (change : IsrChange) → Does c.in-Down.kept c.in-Down.kept (change_act change) (Refused c.refusal.result)
    by_change (Join m) = λ r. refuses_down r c.in-Down.kept (model.Join m) c.refusal.result c.refusal.ensures.down c.refusal.ensures.value tt
    by_change (Leave m) = λ r. refuses_down r c.in-Down.kept (model.Leave m) c.refusal.result c.refusal.ensures.down c.refusal.ensures.value tt
