use Rattle.std.proofs.Common.{◌≡◌, ap, sym, subst, ◌∙◌, None, Err, rules}
use Rattle.kp_types.specs.Causes.{IsRefusedOnlyBy}
use Rattle.kp_types.specs.declared.refusal.Refusal.TheVariants.{Memory}
use Rattle.kp_model.specs.Event.{Refused}
use Rattle.kp_model.specs.Letter.{letter}
use Rattle.kp_model.specs.Local.{cause}
use Rattle.kp_model.specs.World.{LeaderAndIsr}
use Rattle.kp_replica.specs.Altering.{change_act}
use Rattle.kp_replica.specs.Broker.{node_at}
use Rattle.kp_replica.specs.NumberedNode.{NumberedNode, Does}
use Rattle.kp_node.specs.Calls.{Sent}
use Rattle.kp_node.specs.Seated.{SeatedNode}
use Rattle.kp_node.proofs.Changing.{free_is, keeps, no_message, only_free, refused_only, stays_same, was_asked}
use Rattle.kp_node.proofs.Ties.{Tied, may_send, sent_low, tied_sent}
use Rattle.kp_node.proofs.node.Node.alter.Goals as goal

pub load_end_sending-pass-requires-clause-may : goal.load_end_sending-pass-requires-clause-may
load_end_sending-pass-requires-clause-may g c =
    let i = c.self.invariant in
    let does = c.in-Ok.ensures.sent in
    let old = node_at c.self.inside.broker in
    let new = node_at c.alter.new.self in
    let act = change_act c.args.change in
    (act, does.0.message, does.0.letter_is, may_send c.self.inside.pass old new act _ i.0 i.1 (λ messages told. no_message messages c.args.change) does)

pub returns-in-Ok : goal.returns-in-Ok
returns-in-Ok g c =
    let old = node_at c.self.inside.broker in
    let new = node_at c.alter.new.self in
    let act = change_act c.args.change in
    let body = c.in-Ok.body in
    let step = c.load_end_sending-pass in
    let sent = was_asked old new c.args.change (letter body) step.result c.in-Ok.ensures.proposed c.in-Ok.ensures.sent step.ensures.fits in
    let free = free_is old new c.args.change (letter body) c.in-Ok.ensures.sent in
    record {
      sent = subst (λ (s : SeatedNode). Sent s.node new act step.result (letter body)) c.self.view_is sent;
      proposed = search rules;
      refused = tt;
      causes = λ k. only_free _ _ (subst (λ (s : SeatedNode). cause k s.node.number s.node.state act ≡ None) c.self.view_is (free k));
      pass = search rules;
      same = tt;
    }

pub invariant_of-self : goal.invariant_of-self
invariant_of-self g c =
    let i = c.self.invariant in
    let old = node_at c.self.inside.broker in
    let new = node_at c.alter.new.self in
    let body = c.in-Ok.body in
    let step = c.load_end_sending-pass in
    let sent = was_asked old new c.args.change (letter body) step.result c.in-Ok.ensures.proposed c.in-Ok.ensures.sent step.ensures.fits in
    tied_sent g.B.BoardName.table.words c.self.inside.pass step.new.pass old new _ i sent.1.0
    (sent_low old new (change_act c.args.change) step.result (letter body) c.self.inside.pass.published (keeps c.args.change) sent i.2) step.ensures.pass

pub invariant_of-self-in-Err : goal.invariant_of-self-in-Err
invariant_of-self-in-Err g c =
    let old = node_at c.self.inside.broker in
    let new = node_at c.alter.new.self in
    let spared = λ (e : c.in-Err.refusal ≡ Memory). c.in-Err.ensures.spared (ap Err e) in
    let same = stays_same old new c.args.change c.in-Err.refusal spared c.in-Err.ensures.event in
    subst (λ (m : NumberedNode). Tied g.B.BoardName.table.words c.self.inside.pass m) (sym same) c.self.invariant

pub returns-in-Err : goal.returns-in-Err
returns-in-Err g c =
    let old = node_at c.self.inside.broker in
    let new = node_at c.alter.new.self in
    let act = change_act c.args.change in
    let refusal = c.in-Err.refusal in
    let spared = λ (e : refusal ≡ Memory). c.in-Err.ensures.spared (ap Err e) in
    let only = refused_only _ old new c.args.change refusal spared c.in-Err.ensures.event in
    let same = stays_same old new c.args.change refusal spared c.in-Err.ensures.event in
    let seated : NumberedNode → SeatedNode = λ m. record { node = m; pass = c.self.inside.pass } in
    record {
      sent = tt;
      proposed = tt;
      refused = subst (λ (s : SeatedNode). Does s.node new act (Refused refusal)) c.self.view_is c.in-Err.ensures.event;
      causes = subst (λ (s : SeatedNode). (k : LeaderAndIsr) → IsRefusedOnlyBy (cause k s.node.number s.node.state act) (Err refusal)) c.self.view_is only;
      pass = tt;
      same = ap seated same ∙ c.self.view_is;
    }
