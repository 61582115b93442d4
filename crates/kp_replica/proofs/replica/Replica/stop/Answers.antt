use Rattle.std.proofs.Common.{refl, subst, sym}
use Rattle.kp_model.specs.Event.{Stop, Stopped}
use Rattle.kp_replica.specs.NumberedNode.{NumberedNode, Does}
use Rattle.kp_replica.proofs.Calls.{stops}
use Rattle.kp_replica.proofs.replica.Replica.stop.Goals as goal

pub returns-clause-event : goal.returns-clause-event
returns-clause-event c =
    let m = c.args.self in
    subst (λ (x : NumberedNode). Does m x Stop Stopped) (sym c.close.ensures.kept) (λ r. (stops r m.number m.state c.close.ensures.up, (refl, refl)))
