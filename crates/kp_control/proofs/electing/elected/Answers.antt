use Rattle.std.proofs.Common.{rules}
use Rattle.kp_control.proofs.electing.elected.Goals as goal

pub returns-clause-refused : goal.returns-clause-refused
returns-clause-refused c = search rules
