use Rattle.std.proofs.Common.{rules}
use Rattle.kp_types.proofs.counted.Counted.count.Goals as goal

pub returns-in_default : goal.returns-in_default
returns-in_default c = search rules
