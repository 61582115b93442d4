use Rattle.std.proofs.Common.{◌∙◌, arith}
use Rattle.kp_model.proofs.Plain.Compared.{compared}
use Rattle.kp_replica.proofs.altering.are_same.Goals as goal

pub returns : goal.returns
returns c = c.eq.ensures ∙ compared 0 c.args.one.now.members c.args.other.now.members (omega arith)
