use Rattle.std.proofs.Common.{sym, ap, subst, rules}
use Rattle.kp_model.specs.Event as model
use Rattle.kp_replica.specs.NumberedNode.{DoesUnder}
use Rattle.kp_replica.specs.Broker.{node_at}
use Rattle.kp_node.specs.Seated.{SeatedNode}
use Rattle.kp_node.proofs.node.Node.adopt.Goals as goal
use Rattle.kp_model.specs.World.{LeaderAndIsr}
use Rattle.kp_model.specs.Set.{record_of}
use Rattle.kp_replica.specs.Replies.{role_reply}
use Rattle.kp_board.specs.Views.{NodeView}
use Rattle.kp_node.proofs.Adopts.{adopt_may, adopt_tied, adopt_event, pass_is}
use Rattle.kp_model.specs.Calls.{adopted}

pub step_under_record-record-requires : goal.step_under_record-record-requires
step_under_record-record-requires g c = (model.Adopt, adopt_may g.B.BoardName.table.words c.self.inside.pass (node_at c.self.inside.broker) c.self.invariant)

pub invariant_of-self : goal.invariant_of-self
invariant_of-self g c =
    adopt_tied g.B.BoardName.table.words (record_of c.step_under_record-record.result) c.self.inside.pass c.step_under_record-record.new.pass (node_at c.self.inside.broker) (node_at c.adopt.new.self) (role_reply c.adopt.result)
    c.self.invariant c.step_under_record-record.ensures.known c.adopt.ensures c.step_under_record-record.ensures.shown

pub returns : goal.returns
returns g c =
    let found = record_of c.step_under_record-record.result in
    let p = c.self.inside.pass in
    let q = c.step_under_record-record.new.pass in
    let old = node_at c.self.inside.broker in
    let new = node_at c.adopt.new.self in
    let reply = role_reply c.adopt.result in
    let step = c.step_under_record-record.ensures in
    let does = adopt_event g.B.BoardName.table.words found p old new reply c.self.invariant step.known c.adopt.ensures in
    let tied = adopt_tied g.B.BoardName.table.words found p q old new reply c.self.invariant step.known c.adopt.ensures step.shown in
    let shown = ap (λ (p : NodeView). p.shown) step.shown in
    record {
      event = subst (λ (z : LeaderAndIsr × SeatedNode). DoesUnder z.0 z.1.node new model.Adopt reply) (λ j. (sym shown j, c.self.view_is j)) does;
      later = search rules;
      pass = pass_is p q c.args.self.now.pass (adopted found p.number p.state).node new.state found step.shown tied.0 (ap (λ (s : SeatedNode). s.pass) c.self.view_is);
    }
