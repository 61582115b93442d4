use Rattle.std.proofs.Common.{◌≤◌, take}
use Rattle.std.specs.Prelude.{count_by}
use Rattle.std.specs.List.{list_any}
use Rattle.kp_node.specs.Acks.{is_receipts}
use Rattle.kp_race.proofs.judge.count_acked.Given as goal

abbrev pub invariant-loop-receipt : goal.invariant-loop-receipt
invariant-loop-receipt g l = l.acknowledged ≤ count_by (λ r. list_any (is_receipts r) l.pass.seen) (take l.receipt-index l.receipts)
