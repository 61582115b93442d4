use Rattle.std.proofs.Common.{[]}
use Rattle.kp_replica.specs.Broker.{node_at}
use Rattle.kp_node.proofs.node.Node.turn_away.Given as goal

abbrev pub ghosts-load_end : goal.ghosts-load_end
ghosts-load_end g a = record { next = (node_at a._said.now).state; sent = [] }
