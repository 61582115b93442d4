use Rattle.std.proofs.Common.{[]}
use Rattle.kp_draw.specs.Drawing.{Draws}
use Rattle.kp_draw.proofs.shapes.push_shapes.Given as goal

abbrev pub invariant-loop-shape : goal.invariant-loop-shape
invariant-loop-shape l = Draws [] l.fn.text.items l.text.items
