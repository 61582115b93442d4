use Rattle.std.proofs.Common.{◌≤◌, ◌-◌, length}
use Rattle.kp_visible.proofs.Keys.{Looked}
use Rattle.kp_visible.proofs.by_producer.ByProducer.search.Given as goal

abbrev pub invariant-loop-next : goal.invariant-loop-next
invariant-loop-next l = record {
  within : l.next ≤ length l.self.keys.items;
  looked : Looked l.self.aborted.now l.self.keys.items l.producer l.offset l.fn.from l.next;
}

abbrev pub decreases-loop-next : goal.decreases-loop-next
decreases-loop-next l = length l.self.keys.items - l.next
