use Rattle.std.proofs.Common.{rules}
use Rattle.kp_types.proofs.refusal.RefusalDebug.fmt.Goals as goal

pub returns : goal.returns
returns c = search rules
