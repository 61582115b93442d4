use Rattle.kp_model.specs.Calls.{adopted}
use Rattle.kp_replica.specs.Adopting.{IsWithin}
use Rattle.kp_node.proofs.node.Node.adopt.Given as goal

abbrev pub ghosts-step_under_record : goal.ghosts-step_under_record
ghosts-step_under_record g a = record { next = λ c. (adopted c a.pass.now.number a.pass.now.state).node; knows = λ c. IsWithin c a.pass.now.state.log }
