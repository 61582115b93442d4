use Rattle.std.proofs.Common.{◌≡◌, length}
use Rattle.kp_visible.specs.Lent.{committed_left}
use Rattle.kp_visible.proofs.committed.CommittedRecordsIterator.next.Given as goal

abbrev pub invariant-loop-found : goal.invariant-loop-found
invariant-loop-found l = committed_left l.self ≡ committed_left l.fn.self

abbrev pub decreases-loop-found : goal.decreases-loop-found
decreases-loop-found l = length l.self.batches.now
