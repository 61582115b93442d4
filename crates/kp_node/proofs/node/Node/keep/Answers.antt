use Rattle.std.proofs.Common.{◌≡◌, List, sym, ap, subst, ◌∙◌}
use Rattle.std.specs.Prelude.{Contains}
use Rattle.kp_model.specs.Log.{Batch}
use Rattle.kp_model.specs.World.{Node}
use Rattle.kp_board.specs.Views.{CallerView}
use Rattle.kp_replica.specs.Broker.{node_at}
use Rattle.kp_node.specs.Seated.{SeatedNode}
use Rattle.kp_node.proofs.node.Node.keep.Goals as goal

pub keep_receipt-requires : goal.keep_receipt-requires
keep_receipt-requires g c =
    let r = c.requires in
    let x = r.0 in
    let state : (node_at c.self.inside.broker).state.log ≡ c.args.self.now.node.state.log = ap (λ (s : SeatedNode). s.node.state.log) c.self.view_is in
    let log : c.tell_held.new.to.told.log ≡ c.args.self.now.node.state.log =
    ap (λ (t : CallerView). t.told.log) c.tell_held.ensures.told ∙ ap (λ (y : Node). y.log) c.self.invariant.0 ∙ state in
    (x, r.1, subst (λ (l : List Batch). Contains l x.batch) (sym log) r.2)
