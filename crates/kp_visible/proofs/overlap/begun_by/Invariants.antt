use Rattle.std.proofs.Common.{◌≡◌, leb, take}
use Rattle.std.specs.List.{filter}
use Rattle.kp_visible.proofs.overlap.begun_by.Given as goal

abbrev pub invariant-loop-ended : goal.invariant-loop-ended
invariant-loop-ended l = l.entries.items ≡ filter (λ a. leb a.first l.offset) (take l.ended-index l.aborted)
