use Rattle.std.proofs.Common.{take}
use Rattle.kp_draw.specs.Drawing.{Draws}
use Rattle.kp_draw.specs.Rows.{titles_kept}
use Rattle.kp_draw.proofs.picture.push_events.Given as goal

abbrev pub invariant-loop-place : goal.invariant-loop-place
invariant-loop-place l = Draws (titles_kept (take l.place l.fn.kept.rows.items)) l.fn.text.items l.text.items
