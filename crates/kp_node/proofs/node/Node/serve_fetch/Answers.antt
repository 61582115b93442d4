-- What a leader answers to a request, and the step that it makes.
use Rattle.std.proofs.Common.{refl, subst}
use Rattle.kp_model.specs.Event.{Receive, Refused}
use Rattle.kp_model.specs.Letter.{Fetching, fetch_answer, fetch_request}
use Rattle.kp_model.specs.World.{initial}
use Rattle.kp_replica.specs.Broker.{node_at}
use Rattle.kp_replica.specs.NumberedNode.{Does}
use Rattle.kp_node.specs.Calls.{Sent}
use Rattle.kp_node.specs.Seated.{SeatedNode}
use Rattle.kp_node.proofs.Heard.{asks_keep}
use Rattle.kp_node.proofs.Serves.{answer_to, answers_it, serve_may, was_served}
use Rattle.kp_node.proofs.Ties.{Tied, gives, kept_low, may_go, received, sent_low, tied_sent, was_told}
use Rattle.kp_node.proofs.node.Node.serve_fetch.Given.{Over}
use Rattle.kp_node.proofs.node.Node.serve_fetch.Goals as goal
use Rattle.kp_node.proofs.node.Node.serve_fetch.Goals.{After-result-1}

pub load_end_sending-pass-requires-clause-may : goal.load_end_sending-pass-requires-clause-may
load_end_sending-pass-requires-clause-may g c =
    let p = c.self.inside.pass in
    let q = c.receive.new.pass in
    let m = node_at c.self.inside.broker in
    let asked = c.args.asked in
    let tied : Tied g.B.BoardName.table.words q m = received g.B.BoardName.table.words p q m asked c.self.invariant c.receive.ensures in
    let told = was_told p q asked c.receive.ensures in
    let new = node_at c.serve_fetch.new.self in
    let letter = Fetching (fetch_answer c.in-Ok.answer) in (
      Receive asked,
      answer_to q.state asked,
      answers_it q m new asked c.args.request letter tied.0 tied.1 told c.requires c.in-Ok.ensures.served,
      serve_may q m new asked c.args.request letter tied.0 tied.1 told c.requires c.in-Ok.ensures.served,
    )

sent : (g : Over) (c : After-result-1 g)
    → Sent (node_at c.self.inside.broker) (node_at c.serve_fetch.new.self) (Receive c.args.asked) c.load_end_sending-pass.result (Fetching (fetch_answer c.in-Ok.answer))
sent g c =
    let p = c.self.inside.pass in
    let q = c.receive.new.pass in
    let m = node_at c.self.inside.broker in
    let asked = c.args.asked in
    let tied : Tied g.B.BoardName.table.words q m = received g.B.BoardName.table.words p q m asked c.self.invariant c.receive.ensures in
    let step = c.load_end_sending-pass in
    was_served q m (node_at c.serve_fetch.new.self) asked c.args.request (Fetching (fetch_answer c.in-Ok.answer)) tied.0 tied.1 (was_told p q asked c.receive.ensures) c.requires c.in-Ok.ensures.served
    step.ensures.run step.result step.ensures.fits

pub returns-in-Ok-clause-served : goal.returns-in-Ok-clause-served
returns-in-Ok-clause-served g c =
    subst (λ (s : SeatedNode). Sent s.node (node_at c.serve_fetch.new.self) (Receive c.args.asked) c.load_end_sending-pass.result (Fetching (fetch_answer c.in-Ok.answer))) c.self.view_is (sent g c)

pub invariant_of-result : goal.invariant_of-result
invariant_of-result g c =
    let p = c.self.inside.pass in
    let q = c.receive.new.pass in
    let m = node_at c.self.inside.broker in
    let asked = c.args.asked in
    let tied : Tied g.B.BoardName.table.words q m = received g.B.BoardName.table.words p q m asked c.self.invariant c.receive.ensures in
    let told = was_told p q asked c.receive.ensures in
    let new = node_at c.serve_fetch.new.self in
    let letter = Fetching (fetch_answer c.in-Ok.answer) in
    let step = c.load_end_sending-pass in
    let sent : Sent m new (Receive asked) step.result letter =
    was_served q m new asked c.args.request letter tied.0 tied.1 told c.requires c.in-Ok.ensures.served step.ensures.run step.result step.ensures.fits in
    record { tied = sent.0.0 }

pub invariant_of-self : goal.invariant_of-self
invariant_of-self g c =
    let q = c.receive.new.pass in
    let m = node_at c.self.inside.broker in
    let asked = c.args.asked in
    let tied : Tied g.B.BoardName.table.words q m = received g.B.BoardName.table.words c.self.inside.pass q m asked c.self.invariant c.receive.ensures in
    let new = node_at c.serve_fetch.new.self in
    let letter = Fetching (fetch_answer c.in-Ok.answer) in
    let step = c.load_end_sending-pass in
    let was = sent g c in
    tied_sent g.B.BoardName.table.words q step.new.pass m new _ tied was.1.0
    (sent_low m new (Receive asked) step.result letter q.published (asks_keep asked (fetch_request c.args.request) refl c.requires) was tied.2) step.ensures.pass

pub returns-in-Ok-clause-mark : goal.returns-in-Ok-clause-mark
returns-in-Ok-clause-mark g c = (invariant_of-self g c).2

pub load_end-requires-clause-may : goal.load_end-requires-clause-may
load_end-requires-clause-may g c =
    let p = c.self.inside.pass in
    let q = c.receive.new.pass in
    let m = node_at c.self.inside.broker in
    let asked = c.args.asked in
    let tied : Tied g.B.BoardName.table.words q m = received g.B.BoardName.table.words p q m asked c.self.invariant c.receive.ensures in
    let new = node_at c.serve_fetch.new.self in
    let does = c.in-Err.ensures.refused asked c.requires in
    (Receive asked, may_go q m new (Receive asked) (Refused c.in-Err.refusal) tied.0 tied.1 (gives p q asked c.receive.ensures) does)

pub returns-in-Err-clause-refused : goal.returns-in-Err-clause-refused
returns-in-Err-clause-refused g c =
    subst (λ (s : SeatedNode). Does s.node (node_at c.serve_fetch.new.self) (Receive c.args.asked) (Refused c.in-Err.refusal)) c.self.view_is (c.in-Err.ensures.refused c.args.asked c.requires)

pub invariant_of-self-in-Err : goal.invariant_of-self-in-Err
invariant_of-self-in-Err g c =
    let p = c.self.inside.pass in
    let q = c.receive.new.pass in
    let m = node_at c.self.inside.broker in
    let asked = c.args.asked in
    let tied : Tied g.B.BoardName.table.words q m = received g.B.BoardName.table.words p q m asked c.self.invariant c.receive.ensures in
    let new = node_at c.serve_fetch.new.self in
    let does = c.in-Err.ensures.refused asked c.requires in
    let after : Tied g.B.BoardName.table.words c.load_end.new.pass new = tied_sent g.B.BoardName.table.words q c.load_end.new.pass m new _ tied (does (initial 0)).1.0
    (kept_low m new (Receive asked) (Refused c.in-Err.refusal) q.published (asks_keep asked (fetch_request c.args.request) refl c.requires) does tied.2) c.load_end.ensures in
    after

pub returns-in-Err-clause-mark : goal.returns-in-Err-clause-mark
returns-in-Err-clause-mark g c = (invariant_of-self-in-Err g c).2
