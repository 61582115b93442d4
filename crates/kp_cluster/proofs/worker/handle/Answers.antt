use Rattle.std.proofs.Common.{rules}
use Rattle.kp_cluster.proofs.worker.handle.Goals as goal

pub returns-in-None : goal.returns-in-None
returns-in-None g c = search rules
