use Rattle.std.proofs.Common.{◌≡◌, []}
use Rattle.kp_replica.specs.Broker.{node_at}
use Rattle.kp_node.proofs.Heard.{first_told}
use Rattle.kp_node.proofs.Serves.{answer_to}
use Rattle.kp_node.proofs.node.Node.serve_fetch.Given as goal

abbrev pub ghosts-load_end_sending : goal.ghosts-load_end_sending
ghosts-load_end_sending g a = record { next = (node_at a._said.now).state; fits = λ m. m ≡ answer_to a.pass.now.state (first_told a.pass.now.told) }

abbrev pub ghosts-load_end : goal.ghosts-load_end
ghosts-load_end g a = record { next = (node_at a._said.now).state; sent = [] }
