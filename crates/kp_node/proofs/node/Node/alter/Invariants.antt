use Rattle.std.proofs.Common.{◌≡◌}
use Rattle.kp_model.specs.Letter.{letter, letter_of}
use Rattle.kp_replica.specs.Broker.{node_at}
use Rattle.kp_node.proofs.node.Node.alter.Given as goal

abbrev pub ghosts-load_end_sending : goal.ghosts-load_end_sending
ghosts-load_end_sending g a = record { next = (node_at a._said.now).state; fits = λ m. letter_of m ≡ letter a._message.now }
