use Rattle.std.proofs.Common.{◌≡◌, ap, ◌∙◌, sym, subst}
use Rattle.kp_log.specs.Partition.{Partition}
use Rattle.kp_model.specs.Log.{end_of}
use Rattle.kp_model.specs.Event.{Refused, Reply, Restart, Restarted}
use Rattle.kp_replica.specs.Broker.{node_at}
use Rattle.kp_replica.specs.NumberedNode.{DoesUnder}
use Rattle.kp_replica.specs.declared.broker.Broker.{Broker}
use Rattle.kp_replica.proofs.Downs.{refuses_up}
use Rattle.kp_replica.proofs.up_or_down.restarted.Goals as goal

pub returns-in-Up-clause-event : goal.returns-in-Up-clause-event
returns-in-Up-clause-event c = λ r.
    let x = c.in-Up.replica in
    let refusal = c.refusal-refusal.result in
    subst (λ (b : Broker). DoesUnder r (node_at b) x Restart (Refused refusal)) (sym c.in-Up.is)
    (refuses_up r x refusal c.refusal-refusal.ensures.up c.refusal-refusal.ensures.value)

pub returns-in-Ok-clause-event : goal.returns-in-Ok-clause-event
returns-in-Ok-clause-event c = λ r.
    let x = c.in-Down.kept in
    let y = c.in-Ok.replica in
    let end : c.end_offset.result ≡ end_of y.state.log = c.end_offset.ensures.value ∙ ap (λ (p : Partition). end_of p.log) c.log.ensures.value in
    let told : Restarted c.life.result c.end_offset.result c.watermark.result ≡ Restarted y.state.life (end_of y.state.log) y.state.watermark =
    λ i. Restarted (c.life.ensures i) (end i) (c.watermark.ensures.value i) in
    subst (λ (b : Broker). DoesUnder r (node_at b) y Restart (Restarted c.life.result c.end_offset.result c.watermark.result)) (sym c.in-Down.is)
    (subst (λ (reply : Reply). DoesUnder r x y Restart reply) (sym told) (c.in-Ok.ensures.restarted r))

pub returns-in-Err-clause-event : goal.returns-in-Err-clause-event
returns-in-Err-clause-event c = λ r.
    subst (λ (b : Broker). DoesUnder r (node_at b) c.in-Err.kept Restart (Refused c.in-Err.refusal)) (sym c.in-Down.is) (c.in-Err.ensures.refused r)
