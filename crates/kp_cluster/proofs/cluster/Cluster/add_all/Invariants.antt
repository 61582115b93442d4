use Rattle.std.proofs.Common.{◌≡◌}
use Rattle.kp_cluster.proofs.cluster.Cluster.add_all.Given as goal

abbrev pub invariant-loop-node : goal.invariant-loop-node
invariant-loop-node g l = l.self ≡ l.node-index
