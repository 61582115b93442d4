use Rattle.std.proofs.Common.{length, string_bytes}
use Rattle.kp_inspect.proofs.Telling.{Told}
use Rattle.kp_inspect.proofs.text.push_batches.Given as goal

abbrev pub invariant-loop-batch : goal.invariant-loop-batch
invariant-loop-batch l = Told (string_bytes l.fn.text) (string_bytes l.text) l.fn.batches l.position l.rest

abbrev pub decreases-loop-batch : goal.decreases-loop-batch
decreases-loop-batch l = length l.rest
