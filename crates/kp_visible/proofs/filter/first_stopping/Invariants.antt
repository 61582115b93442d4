use Rattle.std.proofs.Common.{◌≡◌, ◌≤◌, ◌-◌, false, length}
use Rattle.std.specs.List.{AllWithin}
use Rattle.kp_visible.specs.Searched.{stops}
use Rattle.kp_visible.proofs.filter.first_stopping.Given as goal

abbrev pub invariant-loop-place : goal.invariant-loop-place
invariant-loop-place l = record {
  on : l.from ≤ l.place;
  passed : AllWithin (λ a. stops l.offset a ≡ false) l.aborted l.from l.place;
}

abbrev pub decreases-loop-place : goal.decreases-loop-place
decreases-loop-place l = length l.aborted - l.place
