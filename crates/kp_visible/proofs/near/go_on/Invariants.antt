use Rattle.std.proofs.Common.{◌≡◌, ◌≤◌, ◌-◌, length}
use Rattle.kp_visible.specs.Near.{on_from}
use Rattle.kp_visible.proofs.near.go_on.Given as goal

abbrev pub invariant-loop-place : goal.invariant-loop-place
invariant-loop-place l =
    (l.place ≤ length l.aborted) × (on_from l.aborted l.offset l.place ≡ on_from l.aborted l.offset l.from)

abbrev pub decreases-loop-place : goal.decreases-loop-place
decreases-loop-place l = length l.aborted - l.place
