use Rattle.std.proofs.Common.{rules}
use Rattle.kp_model.proofs.message.DivergingEpoch.new.Goals as goal

pub returns-in-Some : goal.returns-in-Some
returns-in-Some c = search rules
