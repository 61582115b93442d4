use Rattle.std.proofs.Common.{[]}
use Rattle.kp_replica.specs.Broker.{node_at}
use Rattle.kp_node.proofs.node.Node.raise.Given as goal

abbrev pub ghosts-raise_mark : goal.ghosts-raise_mark
ghosts-raise_mark g a = record { next = (node_at a._said.now).state; sent = [] }
