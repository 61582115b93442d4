use Rattle.std.proofs.Common.{subst, rules}
use Rattle.kp_model.specs.Event as model
use Rattle.kp_model.specs.World.{initial}
use Rattle.kp_replica.specs.NumberedNode.{Does}
use Rattle.kp_replica.specs.Broker.{node_at}
use Rattle.kp_node.specs.Seated.{SeatedNode}
use Rattle.kp_replica.specs.Replies.{watermark_reply}
use Rattle.kp_node.proofs.Ties.{tied_at, may_go}
use Rattle.kp_node.proofs.node.Node.raise.Goals as goal

pub raise_mark-requires-clause-may : goal.raise_mark-requires-clause-may
raise_mark-requires-clause-may g c =
    let i = c.self.invariant in
    (model.Raise, may_go c.self.inside.pass (node_at c.self.inside.broker) (node_at c.raise-raised.new.self) model.Raise (watermark_reply c.raise-raised.result) i.0 i.1 (λ messages told. tt) c.raise-raised.ensures)

pub invariant_of-self : goal.invariant_of-self
invariant_of-self g c =
    let i = c.self.invariant in
    tied_at g.B.BoardName.table.words c.watermark-watermark.result c.self.inside.pass c.raise_mark.new.pass (node_at c.self.inside.broker) (node_at c.raise-raised.new.self) i (c.raise-raised.ensures (initial 0)).1.0
    c.watermark-watermark.ensures.value c.raise_mark.ensures

pub returns : goal.returns
returns g c = record {
  event = subst (λ (s : SeatedNode). Does s.node (node_at c.raise-raised.new.self) model.Raise (watermark_reply c.raise-raised.result)) c.self.view_is c.raise-raised.ensures;
  pass = search rules;
}
