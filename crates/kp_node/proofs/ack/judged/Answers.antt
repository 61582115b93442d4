use Rattle.std.proofs.Common.{true, false, sym}
use Rattle.kp_model.specs.Log.{logged}
use Rattle.kp_node.proofs.Judged.{ack_none, ack_high, ack_low}
use Rattle.kp_node.proofs.ack.judged.Goals as goal

pub returns-in-None : goal.returns-in-None
returns-in-None c = ack_none c.args.log.now.log c.args.watermark c.args.receipt.now (sym c.in-None.ensures)

pub returns-then-is_receipts : goal.returns-then-is_receipts
returns-then-is_receipts c = ack_low c.args.log.now.log c.args.watermark c.args.receipt.now (logged c.in-Some.batch.now) true (sym c.in-Some.ensures) (sym c.if-lies_below.ensures) (sym c.if-is_receipts.ensures)

pub returns-else-is_receipts : goal.returns-else-is_receipts
returns-else-is_receipts c = ack_low c.args.log.now.log c.args.watermark c.args.receipt.now (logged c.in-Some.batch.now) false (sym c.in-Some.ensures) (sym c.if-lies_below.ensures) (sym c.if-is_receipts.ensures)

pub returns-else-lies_below : goal.returns-else-lies_below
returns-else-lies_below c = ack_high c.args.log.now.log c.args.watermark c.args.receipt.now (logged c.in-Some.batch.now) c.end_offset-end.ensures.lawful (sym c.in-Some.ensures) (sym c.if-lies_below.ensures)
