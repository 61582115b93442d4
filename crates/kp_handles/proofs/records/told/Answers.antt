use Rattle.std.proofs.Common.{rules}
use Rattle.kp_handles.proofs.records.told.Goals as goal

pub returns : goal.returns
returns c = search rules
