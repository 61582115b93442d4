use Rattle.std.proofs.Common.{◌≤◌}
use Rattle.std.specs.List.{AllWithin}
use Rattle.kp_model.specs.Log.{logged}
use Rattle.kp_visible.proofs.filter.base_offsets.Given as goal

abbrev pub invariant-loop-batch : goal.invariant-loop-batch
invariant-loop-batch l = AllWithin (λ w. (l.lowest ≤ (logged w).base) × ((logged w).base ≤ l.highest)) l.batches 0 l.batch-index
