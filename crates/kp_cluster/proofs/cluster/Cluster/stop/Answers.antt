use Rattle.std.proofs.Common.{rules}
use Rattle.kp_cluster.proofs.cluster.Cluster.stop.Goals as goal

pub returns-in-Err : goal.returns-in-Err
returns-in-Err g c = search rules
