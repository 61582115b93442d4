use Rattle.std.proofs.Common.{◌≡◌, ℕ, ◌<◌, ◌≤◌}
use Rattle.std.specs.Prelude.{◌⊎◌, slice_index}
use Rattle.kp_race.proofs.judge.greatest_watermark.Given as goal

abbrev pub invariant-loop-node : goal.invariant-loop-node
invariant-loop-node g l = record {
  greatest : (node : ℕ) → node < l.node → slice_index l.pass.marks node ≤ l.greatest;
  some : (l.greatest ≡ 0) ⊎ ((node : ℕ) × (node < l.node) × (slice_index l.pass.marks node ≡ l.greatest));
}
