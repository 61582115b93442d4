use Rattle.std.proofs.Common.{subst, rules}
use Rattle.kp_model.specs.Event.{Ask}
use Rattle.kp_model.specs.Letter.{letter}
use Rattle.kp_replica.specs.Broker.{node_at}
use Rattle.kp_node.specs.Calls.{Sent}
use Rattle.kp_node.specs.Seated.{SeatedNode}
use Rattle.kp_node.proofs.Ties.{may_send, sent_by, was_sent}
use Rattle.kp_node.proofs.node.Node.ask.Goals as goal

pub load_end_sending-pass-requires-clause-may : goal.load_end_sending-pass-requires-clause-may
load_end_sending-pass-requires-clause-may g c =
    let i = c.self.invariant in
    let does = c.in-Ok.ensures.sent in
    let m = node_at c.self.inside.broker in
    (Ask, does.0.message, sent_by c.self.inside.pass m m Ask _ i.0 i.1 does, may_send c.self.inside.pass m m Ask _ i.0 i.1 (λ messages told. tt) does)

pub returns-in-Ok : goal.returns-in-Ok
returns-in-Ok g c =
    let i = c.self.invariant in
    let m = node_at c.self.inside.broker in
    let body = c.in-Ok.body in
    let step = c.load_end_sending-pass in
    let sent = was_sent c.self.inside.pass m m Ask step.result (letter body) i.0 i.1 c.in-Ok.ensures.sent.1 step.ensures.fits in
    record {
      sent = subst (λ (s : SeatedNode). Sent s.node m Ask step.result (letter body)) c.self.view_is sent;
      refused = tt;
      spared = tt;
      node = search rules;
      pass = search rules;
      same = tt;
    }
