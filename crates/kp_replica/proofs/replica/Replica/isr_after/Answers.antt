use Rattle.std.proofs.Common.{rules}
use Rattle.kp_replica.proofs.replica.Replica.isr_after.Goals as goal

pub returns-in-Some-2-clause-refused : goal.returns-in-Some-2-clause-refused
returns-in-Some-2-clause-refused c = search rules
