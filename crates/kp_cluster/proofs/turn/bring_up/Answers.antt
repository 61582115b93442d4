use Rattle.std.proofs.Common.{rules}
use Rattle.kp_cluster.proofs.turn.bring_up.Goals as goal

pub returns : goal.returns
returns g c = search rules
