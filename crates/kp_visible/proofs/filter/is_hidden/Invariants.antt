use Rattle.std.proofs.Common.{◌≡◌, false}
use Rattle.std.specs.List.{AllWithin}
use Rattle.kp_visible.specs.Filter.{decides}
use Rattle.kp_visible.proofs.filter.is_hidden.Given as goal

abbrev pub invariant-loop-ended : goal.invariant-loop-ended
invariant-loop-ended l = AllWithin (λ a. decides l.producer l.offset a ≡ false) l.aborted 0 l.ended-index
