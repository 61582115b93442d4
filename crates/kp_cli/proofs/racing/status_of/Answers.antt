use Rattle.std.proofs.Common.{rules}
use Rattle.kp_cli.proofs.racing.status_of.Goals as goal

pub returns-else-agree : goal.returns-else-agree
returns-else-agree c = search rules
