use Rattle.std.proofs.Common.{subst}
use Rattle.kp_model.specs.Event.{Receive}
use Rattle.kp_model.specs.Letter.{decision_of}
use Rattle.kp_model.specs.Set.{record_of}
use Rattle.kp_model.specs.World.{Decides, initial}
use Rattle.kp_replica.specs.Broker.{node_at}
use Rattle.kp_replica.specs.NumberedNode.{Does}
use Rattle.kp_replica.specs.Replies.{learned_reply}
use Rattle.kp_node.specs.Seated.{SeatedNode}
use Rattle.kp_node.proofs.Deciding.{decided, may_go_under, tied_under}
use Rattle.kp_node.proofs.Ties.{Tied, gives, kept_low, received}
use Rattle.kp_node.proofs.node.Node.learn.Goals as goal

pub step_under_record-record-requires : goal.step_under_record-record-requires
step_under_record-record-requires g c =
    let p = c.self.inside.pass in
    let q = c.receive.new.pass in
    let m = node_at c.self.inside.broker in
    let sent = c.args.sent in
    let tied : Tied g.B.BoardName.table.words q m = received g.B.BoardName.table.words p q m sent c.self.invariant c.receive.ensures in
    let call = c.learn-learned in
    let new = node_at call.new.self in
    let reply = learned_reply call.result in
    let does = decided m new sent (decision_of c.args.decision.now) reply c.requires call.ensures.event in
    (Receive sent, may_go_under q m new (Receive sent) reply tied.0 tied.1 tied.2 (gives p q sent c.receive.ensures) does)

pub returns-clause-event : goal.returns-clause-event
returns-clause-event g c =
    let m = node_at c.self.inside.broker in
    let call = c.learn-learned in
    let new = node_at call.new.self in
    let reply = learned_reply call.result in
    let does = decided m new c.args.sent (decision_of c.args.decision.now) reply c.requires call.ensures.event in
    subst (λ (s : SeatedNode). Does s.node new (Receive c.args.sent) reply) c.self.view_is does

pub invariant_of-self : goal.invariant_of-self
invariant_of-self g c =
    let p = c.self.inside.pass in
    let q = c.receive.new.pass in
    let m = node_at c.self.inside.broker in
    let sent = c.args.sent in
    let tied : Tied g.B.BoardName.table.words q m = received g.B.BoardName.table.words p q m sent c.self.invariant c.receive.ensures in
    let call = c.learn-learned in
    let new = node_at call.new.self in
    let step = c.step_under_record-record in
    let low = kept_low m new (Receive (Decides (decision_of c.args.decision.now))) (learned_reply call.result) q.published tt call.ensures.event tied.2 in
    tied_under g.B.BoardName.table.words q step.new.pass m new (record_of step.result) tied (call.ensures.event (initial 0)).1.0 low step.ensures.shown

pub returns-clause-mark : goal.returns-clause-mark
returns-clause-mark g c = (invariant_of-self g c).2
