use Rattle.std.proofs.Common.{◌+◌, ◌<◌, ◌-◌, ◌^◌, ℕ, refl, sym, subst, arith}
use Rattle.kp_types.specs.declared.refusal.Refusal.TheVariants as refusals
use Rattle.kp_model.specs.Log.{end_of}
use Rattle.kp_model.specs.World.{Idle}
use Rattle.kp_model.specs.Event.{Restart, Restarted, Refused}
use Rattle.kp_log.specs.Partition.{Partition}
use Rattle.kp_log.specs.Kept.{KeptLog}
use Rattle.kp_replica.specs.Kept.{kept_node}
use Rattle.kp_replica.specs.NumberedNode.{NumberedNode, Does}
use Rattle.kp_replica.proofs.Calls.{restarts, not_again, lacks_room}
use Rattle.kp_replica.proofs.replica.Replica.restart.Goals as goal

pub returns-then-node-clause-refused : goal.returns-then-node-clause-refused
returns-then-node-clause-refused c =
    let m = kept_node c.node.inside in
    subst (λ (x : NumberedNode). Does x x Restart (Refused refusals.RecordFull)) c.node.view_is
    (λ r. (not_again r m.number m.state refl (omega (arith, c.if-node.true)), (refl, refl)))

pub returns-in-Ok-clause-restarted : goal.returns-in-Ok-clause-restarted
returns-in-Ok-clause-restarted c =
    let m = kept_node c.node.inside in
    let below : c.node.inside.life < 2 ^ 64 - 1 = omega (arith, c.if-node.false, c.node.ranges) in
    let P : NumberedNode → Partition → ℕ → Type 0 =
    λ x p mark. Does x (record { number = m.number; limits = p.limits; state = record { log = p.log; watermark = mark; checkpoint = mark; life = m.state.life + 1; kept = m.state.kept; mode = Idle } }) Restart
    (Restarted (m.state.life + 1) (end_of p.log) mark) in
    subst (λ (x : NumberedNode). P x c.in-Ok.log c.start_offset-checkpoint.result) c.node.view_is
    (subst (λ (p : Partition). P m p c.start_offset-checkpoint.result) (sym c.in-Ok.ensures.log)
    (subst (λ (mark : ℕ). P m c.node.inside.kept.of mark) (sym c.start_offset-checkpoint.ensures.value)
    (λ r. (restarts r m.number m.state refl below, (refl, refl)))))

pub returns-in-Err-clause-refused : goal.returns-in-Err-clause-refused
returns-in-Err-clause-refused c =
    let m = kept_node c.node.inside in
    let below : c.node.inside.life < 2 ^ 64 - 1 = omega (arith, c.if-node.false, c.node.ranges) in
    subst (λ (x : NumberedNode). Does x (record m { limits = c.in-Err.kept.of.limits; state = record m.state { log = c.in-Err.kept.of.log; checkpoint = c.in-Err.kept.from } }) Restart (Refused c.in-Err.refusal)) c.node.view_is
    (subst (λ (k : KeptLog). Does m (record m { limits = k.of.limits; state = record m.state { log = k.of.log; checkpoint = k.from } }) Restart (Refused c.in-Err.refusal)) (sym c.in-Err.ensures.kept)
    (λ r. (lacks_room r m.number m.state c.in-Err.refusal refl below c.in-Err.ensures.only, (refl, refl))))
