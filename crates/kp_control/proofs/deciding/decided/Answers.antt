use Rattle.std.proofs.Common.{rules}
use Rattle.kp_control.proofs.deciding.decided.Goals as goal

pub returns-in_err-decided-clause-refused : goal.returns-in_err-decided-clause-refused
returns-in_err-decided-clause-refused c = search rules

pub returns-clause-decided : goal.returns-clause-decided
returns-clause-decided c = search rules
