use Rattle.std.proofs.Common.{◌≡◌, ◌∙◌, ap, length, map, subst, sym}
use Rattle.std.proofs.lemmas.List.{length-map}
use Rattle.kp_board.specs.Closing.{AreFrom, WasClosed}
use Rattle.kp_board.specs.Views.{NodeView}
use Rattle.kp_model.specs.Set.{record_of}
use Rattle.kp_replica.specs.NumberedNode.{NumberedNode}
use Rattle.kp_node.specs.Seated.{SeatedNode}
use Rattle.kp_node.specs.Seats.{AreNumbered}
use Rattle.kp_node.proofs.NextLives.{are_from, were_left}
use Rattle.kp_node.proofs.closing.close.Goals as goal

pub close-controller-requires-clause-all : goal.close-controller-requires-clause-all
close-controller-requires-clause-all g c = ap length c.part.ensures.passes ∙ length-map c.args.nodes.items (λ s. s.pass) ∙ c.requires.all

pub close-controller-requires-clause-order : goal.close-controller-requires-clause-order
close-controller-requires-clause-order g c =
    subst (AreFrom 0) (sym c.part.ensures.passes) (are_from c.args.nodes.items 0 c.part.ensures.ready c.requires.order)

pub returns-clause-left : goal.returns-clause-left
returns-clause-left g c =
    were_left (record_of c.close-controller.result) c.args.pass.now.seen c.args.nodes.items _ c.part.ensures.ready c.part.ensures.kept
    (subst (WasClosed (record_of c.close-controller.result) c.args.pass.now.seen) c.part.ensures.passes c.close-controller.ensures.left)

pub returns-clause-order : goal.returns-clause-order
returns-clause-order g c = subst (AreNumbered 0) (sym c.part.ensures.kept) c.requires.order
