use Rattle.std.proofs.Common.{◌≤◌, ◌^◌, ◌-◌, length}
use Rattle.std.proofs.lemmas.List.Elements.{All-drop, All-take}
use Rattle.kp_model.specs.Log.{logged, next_offset}
use Rattle.kp_visible.proofs.committed.CommittedRecordsIterator.next.Goals as goal

pub invariant_of-self-then-is_shown : goal.invariant_of-self-then-is_shown
invariant_of-self-then-is_shown c = record {
  placed =
      All-take (λ w. next_offset (logged w) ≤ 2 ^ 62) (length c.loop-found.self.batches.now - 1) _
      (All-drop (λ w. next_offset (logged w) ≤ 2 ^ 62) 1 c.loop-found.self.batches.now c.loop-found.self.placed);
}

pub invariant_of-self-else-is_shown : goal.invariant_of-self-else-is_shown
invariant_of-self-else-is_shown c = record {
  placed =
      All-take (λ w. next_offset (logged w) ≤ 2 ^ 62) (length c.loop-found.self.batches.now - 1) _
      (All-drop (λ w. next_offset (logged w) ≤ 2 ^ 62) 1 c.loop-found.self.batches.now c.loop-found.self.placed);
}
