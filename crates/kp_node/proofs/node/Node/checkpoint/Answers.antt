use Rattle.std.proofs.Common.{subst, rules}
use Rattle.kp_model.specs.Event as model
use Rattle.kp_model.specs.World.{initial}
use Rattle.kp_replica.specs.NumberedNode.{Does}
use Rattle.kp_replica.specs.Broker.{node_at}
use Rattle.kp_node.specs.Seated.{SeatedNode}
use Rattle.kp_replica.specs.Replies.{checkpoint_reply}
use Rattle.kp_node.proofs.Ties.{tied_on, kept_low, may_go}
use Rattle.kp_node.proofs.node.Node.checkpoint.Goals as goal

pub load_end-requires-clause-may : goal.load_end-requires-clause-may
load_end-requires-clause-may g c =
    let i = c.self.invariant in
    (model.Checkpoint, may_go c.self.inside.pass (node_at c.self.inside.broker) (node_at c.checkpoint-noted.new.self) model.Checkpoint (checkpoint_reply c.checkpoint-noted.result) i.0 i.1 (λ messages told. tt) c.checkpoint-noted.ensures)

pub invariant_of-self : goal.invariant_of-self
invariant_of-self g c =
    let i = c.self.invariant in
    let old = node_at c.self.inside.broker in
    let new = node_at c.checkpoint-noted.new.self in
    tied_on g.B.BoardName.table.words c.self.inside.pass c.load_end.new.pass old new i (c.checkpoint-noted.ensures (initial 0)).1.0
    (kept_low old new model.Checkpoint (checkpoint_reply c.checkpoint-noted.result) c.self.inside.pass.published tt c.checkpoint-noted.ensures i.2) c.load_end.ensures

pub returns : goal.returns
returns g c = record {
  event = subst (λ (s : SeatedNode). Does s.node (node_at c.checkpoint-noted.new.self) model.Checkpoint (checkpoint_reply c.checkpoint-noted.result)) c.self.view_is c.checkpoint-noted.ensures;
  pass = search rules;
}
