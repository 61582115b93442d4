use Rattle.kp_model.specs.Event.{Ask}
use Rattle.kp_model.specs.Letter.{letter}
use Rattle.kp_replica.specs.Broker.{node_at}
use Rattle.kp_node.specs.Calls.{SentBy}
use Rattle.kp_node.proofs.node.Node.ask.Given as goal

abbrev pub ghosts-load_end_sending : goal.ghosts-load_end_sending
ghosts-load_end_sending g a = record { next = (node_at a._said.now).state; fits = λ m. SentBy a.pass.now.number a.pass.now.state (node_at a._said.now).state Ask m (letter a._message.now) }
