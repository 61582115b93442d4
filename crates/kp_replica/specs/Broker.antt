-- A node that is up or down, as the definitions see it.
use Rattle.kp_replica.specs.NumberedNode.{NumberedNode}
use Rattle.kp_replica.specs.declared.broker.Broker.{Broker}
use Rattle.kp_replica.specs.declared.broker.Broker.TheVariants.{Up, Down}

abbrev pub node_at : Broker → NumberedNode
node_at (Up node) = node
node_at (Down node) = node
