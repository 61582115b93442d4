use Rattle.kp_draw.proofs.Growing.{draws_more, draws_none}
use Rattle.kp_draw.proofs.shapes.push_shapes.Goals as goal

pub loop-shape-init : goal.loop-shape-init
loop-shape-init c = draws_none c.args.text.now.items

pub loop-shape-preserved : goal.loop-shape-preserved
loop-shape-preserved c = draws_more c.loop-shape.invariant c.in_ok-push_shape.ensures
