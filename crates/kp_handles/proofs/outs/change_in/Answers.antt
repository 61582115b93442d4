use Rattle.std.proofs.Common.{rules}
use Rattle.kp_handles.proofs.outs.change_in.Goals as goal

pub returns-then-joins : goal.returns-then-joins
returns-then-joins c = search rules
