use Rattle.std.proofs.Common.{rules}
use Rattle.kp_cli.proofs.line.call_in.Goals as goal

pub returns-then-eq-4 : goal.returns-then-eq-4
returns-then-eq-4 c = search rules
