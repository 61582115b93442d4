use Rattle.std.proofs.Common.{rules}
use Rattle.kp_handles.proofs.messages.leave.Goals as goal

pub returns-in-Ok-None-clause-done : goal.returns-in-Ok-None-clause-done
returns-in-Ok-None-clause-done g c = search rules
