use Rattle.std.proofs.Common.{◌≡◌, drop}
use Rattle.kp_script.specs.Left.{lost_line}
use Rattle.kp_script.proofs.left.lost_in.Given as goal

abbrev pub invariant-loop-at : goal.invariant-loop-at
invariant-loop-at l = lost_line l.first (drop l.at l.section) ≡ lost_line l.first l.section
