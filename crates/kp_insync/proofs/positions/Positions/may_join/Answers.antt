use Rattle.std.proofs.Common.{rules}
use Rattle.kp_insync.proofs.positions.Positions.may_join.Goals as goal

pub returns-in-Some-clause-refused : goal.returns-in-Some-clause-refused
returns-in-Some-clause-refused c = search rules
