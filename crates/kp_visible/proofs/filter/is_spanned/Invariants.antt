use Rattle.std.proofs.Common.{◌≡◌, false, take}
use Rattle.std.specs.List.{list_any}
use Rattle.kp_visible.specs.Client.{spans}
use Rattle.kp_visible.proofs.filter.is_spanned.Given as goal

abbrev pub invariant-loop-ended : goal.invariant-loop-ended
invariant-loop-ended l = list_any (spans l.producer l.offset) (take l.ended-index l.aborted) ≡ false
