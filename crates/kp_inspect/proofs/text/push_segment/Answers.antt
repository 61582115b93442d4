use Rattle.std.proofs.Common.{arith}
use Rattle.std.proofs.lemmas.Grind.{common_steps}
use Rattle.kp_inspect.proofs.text.push_segment.Goals as goal

pub returns : goal.returns
returns c = grind (arith, common_steps)
