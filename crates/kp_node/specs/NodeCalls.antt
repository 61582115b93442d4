-- What each call of a node alone does to the node and its pass, which were `old` and are `new` then (own rule).
use Rattle.std.specs.Prelude.{◌≡◌, ◌≤◌, ℕ, max, Result, IfOk}
use Rattle.kp_types.specs.declared.refusal.Refusal.{Refusal}
use Rattle.kp_model.specs.Event.{Adopt, Checkpoint, Raise, Restart, Stop}
use Rattle.kp_replica.specs.Acts.{IsRestarted, answered_reply}
use Rattle.kp_replica.specs.NumberedNode.{Does, DoesUnder}
use Rattle.kp_replica.specs.Replies.{checkpoint_reply, role_reply, watermark_reply}
use Rattle.kp_replica.specs.declared.act.Answer.{Answer}
use Rattle.kp_replica.specs.declared.adopting.Role.{Role}
use Rattle.kp_node.specs.Calls.{stop_reply}
use Rattle.kp_node.specs.Seated.{SeatedNode}

-- It took up the controller's record that its pass shows then, or refused it.
pub record Adopts (old new : SeatedNode) (result : Result Role Refusal) : Type 0 where
  pub event : DoesUnder new.pass.shown old.node new.node Adopt (role_reply result)
  pub later : old.pass.shown.version ≤ new.pass.shown.version
  pub pass : new.pass ≡ record old.pass { state = new.node.state; shown = new.pass.shown }

-- It raised its high watermark, and its mark word is at least that.
pub record Raises (old new : SeatedNode) (result : Result ℕ Refusal) : Type 0 where
  pub event : Does old.node new.node Raise (watermark_reply result)
  pub pass : new.pass ≡ record old.pass { state = new.node.state; published = max old.pass.published new.node.state.watermark }

-- It noted its high watermark as its checkpoint.
pub record Checkpoints (old new : SeatedNode) (result : Result ℕ Refusal) : Type 0 where
  pub event : Does old.node new.node Checkpoint (checkpoint_reply result)
  pub pass : new.pass ≡ record old.pass { state = new.node.state }

-- It stopped.
pub record Stops (old new : SeatedNode) (result : Result (Unit {0}) Refusal) : Type 0 where
  pub event : Does old.node new.node Stop (stop_reply result)
  pub pass : new.pass ≡ record old.pass { state = new.node.state }

-- It started again, and told of its life, its log end offset and its high watermark.
pub record Restarts (old new : SeatedNode) (result : Result Answer Refusal) : Type 0 where
  pub event : Does old.node new.node Restart (answered_reply result)
  pub fits : IfOk result IsRestarted
  pub pass : new.pass ≡ record old.pass { state = new.node.state }
