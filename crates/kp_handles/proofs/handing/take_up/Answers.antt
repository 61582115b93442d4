use Rattle.std.proofs.Common.{rules}
use Rattle.kp_handles.proofs.handing.take_up.Goals as goal

pub returns-clause-handed : goal.returns-clause-handed
returns-clause-handed c = search rules
