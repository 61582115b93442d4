use Rattle.std.proofs.Common.{◌≡◌, sym, ap, subst, ◌∙◌, rules}
use Rattle.kp_model.specs.Event as model
use Rattle.kp_model.specs.Event.{Reply}
use Rattle.kp_model.specs.World.{initial}
use Rattle.kp_replica.specs.Acts.{answer_reply, answered_reply}
use Rattle.kp_replica.specs.Broker.{node_at}
use Rattle.kp_replica.specs.NumberedNode.{Does}
use Rattle.kp_node.specs.Calls.{stop_reply}
use Rattle.kp_node.specs.Seated.{SeatedNode}
use Rattle.kp_node.proofs.Ties.{kept_low, may_go, tied_on}
use Rattle.kp_node.proofs.node.Node.stop.Goals as goal
use Rattle.kp_node.proofs.node.Node.stop.Goals.{in-Ok, in-Err}

pub load_end-requires-clause-may : goal.load_end-requires-clause-may
load_end-requires-clause-may g c =
    let i = c.self.invariant in (
      model.Stop,
      may_go c.self.inside.pass (node_at c.self.inside.broker) (node_at c.stop-stopped.new.self) model.Stop (answered_reply c.stop-stopped.result) i.0 i.1 (λ messages told. tt)
          c.stop-stopped.ensures.event,
    )

pub invariant_of-self : goal.invariant_of-self
invariant_of-self g c =
    let i = c.self.invariant in
    let old = node_at c.self.inside.broker in
    let new = node_at c.stop-stopped.new.self in
    tied_on g.B.BoardName.table.words c.self.inside.pass c.load_end.new.pass old new i (c.stop-stopped.ensures.event (initial 0)).1.0
    (kept_low old new model.Stop (answered_reply c.stop-stopped.result) c.self.inside.pass.published tt c.stop-stopped.ensures.event i.2) c.load_end.ensures

pub returns : goal.returns
returns g c =
    let new = node_at c.stop-stopped.new.self in
    let same : answered_reply c.stop-stopped.result ≡ stop_reply c.match-stopped.result = elim c.match-stopped.branch [
      | in-Ok w ↦ ap answered_reply w.in-Ok.is ∙ ap answer_reply w.in-Ok.ensures.fits ∙ sym (ap stop_reply w.result-is)
      | in-Err w ↦ ap answered_reply w.in-Err.is ∙ sym (ap stop_reply w.result-is)
    ] in
    record {
      event = subst (λ (z : SeatedNode × Reply). Does z.0.node new model.Stop z.1) (λ j. (c.self.view_is j, same j)) c.stop-stopped.ensures.event;
      pass = search rules;
    }
