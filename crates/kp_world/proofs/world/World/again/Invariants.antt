use Rattle.std.proofs.Common.{◌≡◌, map}
use Rattle.kp_replica.specs.Broker.{node_at}
use Rattle.kp_world.proofs.world.World.again.Given as goal

abbrev pub invariant-loop-node : goal.invariant-loop-node
invariant-loop-node l = map node_at l.nodes.items ≡ l.yielded
