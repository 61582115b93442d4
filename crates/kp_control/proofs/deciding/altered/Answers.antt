use Rattle.std.proofs.Common.{rules}
use Rattle.kp_control.proofs.deciding.altered.Goals as goal

pub returns-clause-altered : goal.returns-clause-altered
returns-clause-altered c = search rules
