use Rattle.std.proofs.Common.{rules}
use Rattle.kp_handles.proofs.handing.copied.Goals as goal

pub returns-in-Ok-clause-fits : goal.returns-in-Ok-clause-fits
returns-in-Ok-clause-fits c = search rules
