use Rattle.std.proofs.Common.{refl, subst}
use Rattle.kp_model.specs.Event.{Receive, Refused}
use Rattle.kp_replica.specs.Broker.{node_at}
use Rattle.kp_replica.specs.NumberedNode.{Does}
use Rattle.kp_node.specs.Seated.{SeatedNode}
use Rattle.kp_node.proofs.Deciding.{turned_away}
use Rattle.kp_node.proofs.Ties.{Tied, gives, may_go, received, tied_sent}
use Rattle.kp_node.proofs.node.Node.turn_away.Goals as goal

pub load_end-requires-clause-may : goal.load_end-requires-clause-may
load_end-requires-clause-may g c =
    let p = c.self.inside.pass in
    let q = c.receive.new.pass in
    let m = node_at c.self.inside.broker in
    let sent = c.args.sent in
    let tied : Tied g.B.BoardName.table.words q m = received g.B.BoardName.table.words p q m sent c.self.invariant c.receive.ensures in
    let refusal = c.misplaced-refusal.result in
    let does = turned_away m sent refusal c.requires c.misplaced-refusal.ensures in
    (Receive sent, may_go q m m (Receive sent) (Refused refusal) tied.0 tied.1 (gives p q sent c.receive.ensures) does)

pub returns-clause-refused : goal.returns-clause-refused
returns-clause-refused g c =
    let m = node_at c.self.inside.broker in
    let refusal = c.misplaced-refusal.result in
    subst (λ (s : SeatedNode). Does s.node m (Receive c.args.sent) (Refused refusal)) c.self.view_is
    (turned_away m c.args.sent refusal c.requires c.misplaced-refusal.ensures)

pub invariant_of-self : goal.invariant_of-self
invariant_of-self g c =
    let p = c.self.inside.pass in
    let q = c.receive.new.pass in
    let m = node_at c.self.inside.broker in
    let sent = c.args.sent in
    let tied : Tied g.B.BoardName.table.words q m = received g.B.BoardName.table.words p q m sent c.self.invariant c.receive.ensures in
    tied_sent g.B.BoardName.table.words q c.load_end.new.pass m m _ tied refl tied.2 c.load_end.ensures
