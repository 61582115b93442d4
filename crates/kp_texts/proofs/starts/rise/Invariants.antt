use Rattle.std.proofs.Common.{◌≡◌, length}
use Rattle.kp_texts.specs.Texts.{rise}
use Rattle.kp_texts.proofs.starts.rise.Given as goal

abbrev pub invariant-loop-rest : goal.invariant-loop-rest
invariant-loop-rest l = rise l.rest ≡ rise l.starts

abbrev pub decreases-loop-rest : goal.decreases-loop-rest
decreases-loop-rest l = length l.rest
