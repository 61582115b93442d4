use Rattle.kp_model.specs.Calls.{cut}
use Rattle.kp_replica.specs.Cutting.{diverging}
use Rattle.kp_node.proofs.CutsUnder.{FitsCut}
use Rattle.kp_node.proofs.Heard.{first_told}
use Rattle.kp_node.proofs.node.Node.cut.Given as goal

abbrev pub ghosts-step_under_record : goal.ghosts-step_under_record
ghosts-step_under_record g a = record {
  next = λ c. (cut c a.pass.now.number a.pass.now.state (diverging a._said.now.0 a._said.now.1)).node;
  knows = λ c. FitsCut c a.pass.now.number a.pass.now.state (first_told a.pass.now.told);
}
