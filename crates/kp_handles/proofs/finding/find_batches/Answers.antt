use Rattle.std.proofs.Common.{rules}
use Rattle.kp_handles.proofs.finding.find_batches.Goals as goal

pub returns-in-Ok : goal.returns-in-Ok
returns-in-Ok c = search rules
