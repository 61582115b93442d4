use Rattle.std.proofs.Common.{subst, rules}
use Rattle.kp_model.specs.Event.{Receive}
use Rattle.kp_model.specs.World.{initial}
use Rattle.kp_replica.specs.Broker.{node_at}
use Rattle.kp_replica.specs.NumberedNode.{Does}
use Rattle.kp_replica.specs.Replies.{taken_reply}
use Rattle.kp_node.specs.Seated.{SeatedNode}
use Rattle.kp_node.proofs.Takes.{take_may, was_taken}
use Rattle.kp_node.proofs.Ties.{Tied, received, was_told, tied_marked}
use Rattle.kp_node.proofs.node.Node.take.Goals as goal

pub store_end-requires-clause-may : goal.store_end-requires-clause-may
store_end-requires-clause-may g c =
    let p = c.self.inside.pass in
    let q = c.receive.new.pass in
    let m = node_at c.self.inside.broker in
    let sent = c.args.sent in
    let tied : Tied g.B.BoardName.table.words q m = received g.B.BoardName.table.words p q m sent c.self.invariant c.receive.ensures in
    let call = c.take-taken in
    (Receive sent, take_may q m (node_at call.new.self) sent c.args.request.now c.args.fetched.now call.result tied.0 tied.1 (was_told p q sent c.receive.ensures) c.requires call.ensures)

pub invariant_of-self : goal.invariant_of-self
invariant_of-self g c =
    let p = c.self.inside.pass in
    let q = c.receive.new.pass in
    let m = node_at c.self.inside.broker in
    let sent = c.args.sent in
    let tied : Tied g.B.BoardName.table.words q m = received g.B.BoardName.table.words p q m sent c.self.invariant c.receive.ensures in
    let call = c.take-taken in
    let new = node_at call.new.self in
    let does : Does m new (Receive sent) (taken_reply call.result) =
    was_taken q m new sent c.args.request.now c.args.fetched.now call.result tied.0 tied.1 (was_told p q sent c.receive.ensures) c.requires call.ensures c.store_end.ensures.run in
    tied_marked g.B.BoardName.table.words c.watermark-watermark.result q c.store_end.new.pass c.publish_mark.new.pass m new _ tied (does (initial 0)).1.0 c.watermark-watermark.ensures.value c.store_end.ensures.pass c.publish_mark.ensures

pub returns-clause-event : goal.returns-clause-event
returns-clause-event g c =
    let p = c.self.inside.pass in
    let q = c.receive.new.pass in
    let m = node_at c.self.inside.broker in
    let sent = c.args.sent in
    let tied : Tied g.B.BoardName.table.words q m = received g.B.BoardName.table.words p q m sent c.self.invariant c.receive.ensures in
    let call = c.take-taken in
    let new = node_at call.new.self in
    let does : Does m new (Receive sent) (taken_reply call.result) =
    was_taken q m new sent c.args.request.now c.args.fetched.now call.result tied.0 tied.1 (was_told p q sent c.receive.ensures) c.requires call.ensures c.store_end.ensures.run in
    subst (λ (s : SeatedNode). Does s.node new (Receive sent) (taken_reply call.result)) c.self.view_is does

pub publish_mark-requires-clause-mark : goal.publish_mark-requires-clause-mark
publish_mark-requires-clause-mark g c = search rules
