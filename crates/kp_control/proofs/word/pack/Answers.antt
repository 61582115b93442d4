use Rattle.std.proofs.Common.{rules}
use Rattle.kp_control.proofs.word.pack.Goals as goal

pub returns : goal.returns
returns c = search rules
