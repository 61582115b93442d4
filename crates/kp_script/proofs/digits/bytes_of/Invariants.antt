use Rattle.std.proofs.Common.{◌≡◌, ◌++◌, length}
use Rattle.kp_script.specs.Hex.{bytes_of}
use Rattle.kp_script.proofs.digits.bytes_of.Given as goal

abbrev pub invariant-loop-rest : goal.invariant-loop-rest
invariant-loop-rest l = l.bytes.items ++ bytes_of l.rest ≡ bytes_of l.fn.digits

abbrev pub decreases-loop-rest : goal.decreases-loop-rest
decreases-loop-rest l = length l.rest
