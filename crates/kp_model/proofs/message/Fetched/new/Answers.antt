use Rattle.std.proofs.Common.{rules}
use Rattle.kp_model.proofs.message.Fetched.new.Goals as goal

pub returns-clause-made : goal.returns-clause-made
returns-clause-made c = search rules
