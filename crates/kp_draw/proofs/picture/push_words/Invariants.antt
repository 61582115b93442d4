use Rattle.std.proofs.Common.{[]}
use Rattle.kp_draw.specs.Drawing.{Draws}
use Rattle.kp_draw.proofs.picture.push_words.Given as goal

abbrev pub invariant-loop-place : goal.invariant-loop-place
invariant-loop-place l = Draws [] l.fn.text.items l.text.items
