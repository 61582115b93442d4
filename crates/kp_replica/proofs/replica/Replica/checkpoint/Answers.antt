use Rattle.std.proofs.Common.{refl, subst}
use Rattle.kp_model.specs.Event.{Checkpoint, CheckpointAt}
use Rattle.kp_replica.specs.Kept.{node_of}
use Rattle.kp_replica.specs.NumberedNode.{NumberedNode, Does}
use Rattle.kp_replica.proofs.Ups.{is_up}
use Rattle.kp_replica.proofs.Calls.{checkpoints}
use Rattle.kp_replica.proofs.replica.Replica.checkpoint.Goals as goal

pub returns : goal.returns
returns c =
    let m = node_of c.self.inside in
    subst (λ (x : NumberedNode). Does x (record m { state = record m.state { checkpoint = m.state.watermark } }) Checkpoint (CheckpointAt m.state.watermark)) c.self.view_is
    (λ r. (checkpoints r m.number m.state (is_up c.self.inside.mode), (refl, refl)))
