use Rattle.std.proofs.Common.{◌≡◌, ◌-◌, drop, length}
use Rattle.kp_script.specs.Left.{lost_line}
use Rattle.kp_script.specs.Parsed.{calls_in}
use Rattle.kp_script.proofs.left.lost.Given as goal

abbrev pub invariant-loop-section : goal.invariant-loop-section
invariant-loop-section l = lost_line l.first (calls_in (drop l.at l.sections.items)) ≡ lost_line l.first (calls_in l.sections.items)

abbrev pub decreases-loop-section : goal.decreases-loop-section
decreases-loop-section l = length l.sections.items - l.at
