use Rattle.std.proofs.Common.{arith}
use Rattle.std.proofs.lemmas.Grind.{common_steps}
use Rattle.kp_script.proofs.fields.ending_of.Goals as goal

pub returns-in-abort-clause-found : goal.returns-in-abort-clause-found
returns-in-abort-clause-found c = grind (arith, common_steps)
