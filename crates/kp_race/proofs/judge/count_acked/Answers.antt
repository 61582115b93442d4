use Rattle.std.proofs.Common.{◌≡◌, true, false, ◌<◌, length, arith}
use Rattle.std.specs.List.{list_any}
use Rattle.kp_node.specs.Acks.{is_receipts}
use Rattle.kp_race.proofs.Acked.{any_begins}
use Rattle.kp_race.proofs.Counts.{counts_one, counts_none}
use Rattle.kp_race.proofs.judge.count_acked.Goals as goal
use Rattle.kp_race.proofs.judge.count_acked.Goals.{then-is_acked, else-is_acked}

pub loop-receipt-preserved : goal.loop-receipt-preserved
loop-receipt-preserved g c =
    let receipts = c.args.receipts.now in
    let within : c.loop-receipt.receipt-index < length receipts = omega arith in
    let p = λ (r : _). list_any (is_receipts r) c.loop-receipt.pass.seen in
    let q = λ (r : _). list_any (is_receipts r) c.is_acked.new.pass.seen in
    let weaker = λ (r : _) (h : p r ≡ true). any_begins (is_receipts r) c.is_acked.ensures.seen h in
    let few = c.loop-receipt.invariant in
    elim c.if-is_acked.branch [
      | then-is_acked w ↦
          omega (arith, w.acknowledged-is, counts_one p q weaker receipts c.loop-receipt.receipt-index _ within (c.is_acked.ensures.stands w.if-is_acked.true) c.loop-receipt.acknowledged few)
      | else-is_acked w ↦
          omega (arith, w.acknowledged-is, counts_none p q weaker receipts c.loop-receipt.receipt-index record { base = 0; last = 0; epoch = 0; duplicate = false } within c.loop-receipt.acknowledged few)
    ]
