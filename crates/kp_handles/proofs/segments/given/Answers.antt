use Rattle.std.proofs.Common.{rules}
use Rattle.kp_handles.proofs.segments.given.Goals as goal

pub returns : goal.returns
returns c = search rules

pub returns-in-Ok-share_all : goal.returns-in-Ok-share_all
returns-in-Ok-share_all c = search rules
