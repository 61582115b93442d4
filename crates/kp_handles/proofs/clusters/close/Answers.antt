use Rattle.std.proofs.Common.{rules}
use Rattle.kp_handles.proofs.clusters.close.Goals as goal

pub returns-in-Some-clause-closed : goal.returns-in-Some-clause-closed
returns-in-Some-clause-closed g c = search rules
