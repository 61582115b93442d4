use Rattle.kp_replica.specs.Broker.{node_at}
use Rattle.kp_node.proofs.node.Node.learn.Given as goal

abbrev pub ghosts-step_under_record : goal.ghosts-step_under_record
ghosts-step_under_record g a = record { next = λ c. (node_at a._said.now).state; knows = λ c. Unit {0} }
