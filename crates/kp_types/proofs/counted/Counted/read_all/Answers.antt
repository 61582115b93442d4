use Rattle.std.proofs.Common.{rules}
use Rattle.kp_types.proofs.counted.Counted.read_all.Goals as goal

pub returns-in-Ok-clause-bytes : goal.returns-in-Ok-clause-bytes
returns-in-Ok-clause-bytes g c = search rules
