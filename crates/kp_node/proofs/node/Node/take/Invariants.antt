use Rattle.std.proofs.Common.{[]}
use Rattle.kp_replica.specs.Broker.{node_at}
use Rattle.kp_node.proofs.node.Node.take.Given as goal

abbrev pub ghosts-store_end : goal.ghosts-store_end
ghosts-store_end g a = record { next = (node_at a._said.now).state; sent = [] }

abbrev pub ghosts-publish_mark : goal.ghosts-publish_mark
ghosts-publish_mark g a = record { next = a.pass.now.state; sent = [] }
