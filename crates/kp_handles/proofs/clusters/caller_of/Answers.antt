use Rattle.std.proofs.Common.{rules}
use Rattle.kp_handles.proofs.clusters.caller_of.Goals as goal

pub returns-clause-opened : goal.returns-clause-opened
returns-clause-opened g c = search rules
