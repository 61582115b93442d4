use Rattle.std.proofs.Common.{rules}
use Rattle.kp_cli.proofs.piping.pipe.Goals as goal

pub returns-in-Ok : goal.returns-in-Ok
returns-in-Ok g c = search rules
