use Rattle.std.proofs.Common.{◌≡◌, sym, ap, subst, ◌∙◌}
use Rattle.kp_model.specs.Set.{record_of}
use Rattle.kp_model.specs.Calls.{cut}
use Rattle.kp_model.specs.Event.{Receive}
use Rattle.kp_model.specs.World.{LeaderAndIsr}
use Rattle.kp_replica.specs.Broker.{node_at}
use Rattle.kp_replica.specs.Cutting.{diverging}
use Rattle.kp_replica.specs.NumberedNode.{DoesUnder}
use Rattle.kp_replica.specs.Replies.{cut_reply}
use Rattle.kp_board.specs.Views.{NodeView}
use Rattle.kp_node.specs.Seated.{SeatedNode}
use Rattle.kp_node.proofs.CutsUnder.{HasCutBack, cut_may, cut_back}
use Rattle.kp_node.proofs.Ties.{Tied, received, was_told, shows_as}
use Rattle.kp_node.proofs.node.Node.cut.Given.{Over}
use Rattle.kp_node.proofs.node.Node.cut.Goals as goal
use Rattle.kp_node.proofs.node.Node.cut.Goals.{After-publish_end}

pub step_under_record-record-requires : goal.step_under_record-record-requires
step_under_record-record-requires g c =
    let p = c.self.inside.pass in
    let q = c.receive.new.pass in
    let m = node_at c.self.inside.broker in
    let sent = c.args.sent in
    let tied : Tied g.B.BoardName.table.words q m = received g.B.BoardName.table.words p q m sent c.self.invariant c.receive.ensures in
    (Receive sent, cut_may g.B.BoardName.table.words q m sent c.args.request.now c.args.end tied (was_told p q sent c.receive.ensures) c.requires)

-- the cut that was made, under the record that was found
back : (g : Over) (c : After-publish_end g)
    → HasCutBack g.B.BoardName.table.words (record_of c.step_under_record-record.result) c.receive.new.pass c.step_under_record-record.new.pass (node_at c.self.inside.broker) (node_at c.cut-cut.new.self)
    c.args.sent (diverging c.args.request.now c.args.end) (cut_reply c.cut-cut.result)
back g c =
    let p = c.self.inside.pass in
    let q = c.receive.new.pass in
    let m = node_at c.self.inside.broker in
    let sent = c.args.sent in
    let tied : Tied g.B.BoardName.table.words q m = received g.B.BoardName.table.words p q m sent c.self.invariant c.receive.ensures in
    let call = c.cut-cut in
    let step = c.step_under_record-record in
    cut_back g.B.BoardName.table.words (record_of step.result) q step.new.pass m (node_at call.new.self) sent c.args.request.now c.args.end call.result tied (was_told p q sent c.receive.ensures) c.requires
    step.ensures.known call.ensures step.ensures.shown

-- which the pass shows then
shown : (g : Over) (c : After-publish_end g) → c.publish_end.new.pass.shown ≡ record_of c.step_under_record-record.result
shown g c = ap (λ (z : NodeView). z.shown) (c.publish_end.ensures ∙ c.step_under_record-record.ensures.shown)

pub invariant_of-self : goal.invariant_of-self
invariant_of-self g c =
    subst (λ (z : NodeView). Tied g.B.BoardName.table.words z (node_at c.cut-cut.new.self)) (sym c.publish_end.ensures) (back g c).tied

pub returns-clause-event : goal.returns-clause-event
returns-clause-event g c =
    let new = node_at c.cut-cut.new.self in
    let same = shown g c in
    subst (λ (z : LeaderAndIsr × SeatedNode). DoesUnder z.0 z.1.node new (Receive c.args.sent) (cut_reply c.cut-cut.result)) (λ j. (sym same j, c.self.view_is j)) (back g c).event

pub returns-clause-place : goal.returns-clause-place
returns-clause-place g c =
    let new = node_at c.cut-cut.new.self in
    let l = diverging c.args.request.now c.args.end in
    let same = shown g c in
    subst (λ (z : LeaderAndIsr × SeatedNode). new.state ≡ (cut z.0 z.1.node.number z.1.node.state l).node) (λ j. (sym same j, c.self.view_is j)) (back g c).state

pub returns-clause-pass : goal.returns-clause-pass
returns-clause-pass g c =
    let old = c.args.self.now.pass in
    let new = node_at c.cut-cut.new.self in
    let pass = c.publish_end.new.pass in
    let whole = c.publish_end.ensures ∙ c.step_under_record-record.ensures.shown in
    let was : c.self.inside.pass ≡ old = ap (λ (s : SeatedNode). s.pass) c.self.view_is in
    let count : pass.count ≡ old.count = ap (λ (z : NodeView). z.count) whole ∙ ap (λ (z : NodeView). z.count) c.receive.ensures ∙ ap (λ (z : NodeView). z.count) was in
    let number : pass.number ≡ old.number = ap (λ (z : NodeView). z.number) whole ∙ ap (λ (z : NodeView). z.number) c.receive.ensures ∙ ap (λ (z : NodeView). z.number) was in
    let published : pass.published ≡ old.published = ap (λ (z : NodeView). z.published) whole ∙ ap (λ (z : NodeView). z.published) c.receive.ensures ∙ ap (λ (z : NodeView). z.published) was in
    let state : pass.state ≡ new.state = ap (λ (z : NodeView). z.state) c.publish_end.ensures ∙ (back g c).tied.0 in
    shows_as pass old new.state count number published state

pub returns-clause-mark : goal.returns-clause-mark
returns-clause-mark g c = (invariant_of-self g c).2
