use Rattle.std.proofs.Common.{rules}
use Rattle.kp_insync.proofs.positions.Positions.report.Goals as goal

pub returns-then-place-lt7 : goal.returns-then-place-lt7
returns-then-place-lt7 c = search rules
