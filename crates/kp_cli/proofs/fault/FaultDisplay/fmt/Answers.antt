use Rattle.std.proofs.Common.{rules}
use Rattle.kp_cli.proofs.fault.FaultDisplay.fmt.Goals as goal

pub returns-clause-writes : goal.returns-clause-writes
returns-clause-writes c = search rules
