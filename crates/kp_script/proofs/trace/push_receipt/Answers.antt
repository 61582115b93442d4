use Rattle.kp_script.proofs.trace.push_receipt.Goals as goal

pub returns-then-receipt : goal.returns-then-receipt
returns-then-receipt c = rw c.if-receipt.true c.push_named.ensures

pub returns-else-receipt : goal.returns-else-receipt
returns-else-receipt c = rw c.if-receipt.false c.push_named-else-receipt.ensures
