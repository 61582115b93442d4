use Rattle.std.proofs.Common.{rules}
use Rattle.kp_replica.proofs.replica.Replica.news.Goals as goal

pub returns : goal.returns
returns c = search rules
