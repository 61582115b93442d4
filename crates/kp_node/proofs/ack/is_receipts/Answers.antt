use Rattle.std.proofs.Common.{rules}
use Rattle.kp_node.proofs.ack.is_receipts.Goals as goal

pub returns-then-base_offset-receipt : goal.returns-then-base_offset-receipt
returns-then-base_offset-receipt c = search rules
