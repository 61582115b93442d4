use Rattle.std.proofs.Common.{◌≡◌, ◌≤◌, vec_len}
use Rattle.std.specs.Prelude.{sum_by}
use Rattle.kp_race.specs.Counting.{at_most_64}
use Rattle.kp_race.proofs.judge.counted.Given as goal

abbrev pub invariant-loop-one : goal.invariant-loop-one
invariant-loop-one g l = record {
  few : l.acknowledged ≤ l.receipts;
  receipts : l.receipts ≡ at_most_64 (sum_by (λ one. vec_len one.receipts) l.yielded);
}
