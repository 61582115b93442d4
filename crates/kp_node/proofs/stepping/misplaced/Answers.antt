use Rattle.std.proofs.Common.{rules}
use Rattle.kp_node.proofs.stepping.misplaced.Goals as goal

pub returns-in-Ok : goal.returns-in-Ok
returns-in-Ok c = search rules
