use Rattle.std.proofs.Common.{◌≤◌, length}
use Rattle.kp_draw.proofs.looking.count_kept.Given as goal

abbrev pub invariant-loop-kept : goal.invariant-loop-kept
invariant-loop-kept l = l.kept ≤ length l.pieces

abbrev pub decreases-loop-kept : goal.decreases-loop-kept
decreases-loop-kept l = l.kept
