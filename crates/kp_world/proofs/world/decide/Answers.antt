use Rattle.std.proofs.Common.{rules}
use Rattle.kp_world.proofs.world.decide.Goals as goal

pub returns-clause-record : goal.returns-clause-record
returns-clause-record c = search rules
