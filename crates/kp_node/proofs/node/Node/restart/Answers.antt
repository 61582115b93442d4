use Rattle.std.proofs.Common.{ℕ, ◌≤◌, subst, arith, rules}
use Rattle.kp_model.specs.Event as model
use Rattle.kp_model.specs.World.{initial}
use Rattle.kp_replica.specs.Acts.{answered_reply}
use Rattle.kp_replica.specs.Broker.{node_at}
use Rattle.kp_replica.specs.NumberedNode.{Does}
use Rattle.kp_node.specs.Seated.{SeatedNode}
use Rattle.kp_node.proofs.Ties.{may_go, restart_low, tied_on}
use Rattle.kp_node.proofs.node.Node.restart.Goals as goal

pub load_end-requires-clause-may : goal.load_end-requires-clause-may
load_end-requires-clause-may g c =
    let i = c.self.invariant in (
      model.Restart,
      may_go c.self.inside.pass (node_at c.self.inside.broker) (node_at c.restart-restarted.new.self) model.Restart (answered_reply c.restart-restarted.result) i.0 i.1 (λ messages told. tt)
          c.restart-restarted.ensures.event,
    )

pub invariant_of-self : goal.invariant_of-self
invariant_of-self g c =
    let i = c.self.invariant in
    let old = node_at c.self.inside.broker in
    let new = node_at c.restart-restarted.new.self in
    let passed : old.state.checkpoint ≤ old.state.watermark = subst (λ (n : ℕ). old.state.checkpoint ≤ n) c.watermark-watermark.ensures.value c.watermark-watermark.ensures.passed in
    let low = restart_low old new (answered_reply c.restart-restarted.result) c.restart-restarted.ensures.event passed in
    let was = i.2 in
    tied_on g.B.BoardName.table.words c.self.inside.pass c.load_end.new.pass old new i (c.restart-restarted.ensures.event (initial 0)).1.0 (omega arith) c.load_end.ensures

pub returns : goal.returns
returns g c = record {
  event = subst (λ (s : SeatedNode). Does s.node (node_at c.restart-restarted.new.self) model.Restart (answered_reply c.restart-restarted.result)) c.self.view_is c.restart-restarted.ensures.event;
  fits = search rules;
  pass = search rules;
}
