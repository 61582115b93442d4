use Rattle.kp_handles.specs.Left.{promised_of}
use Rattle.kp_handles.proofs.left.LeftNodes.opened.Given as goal

abbrev pub ghosts-open_again : goal.ghosts-open_again
ghosts-open_again a = record { list = promised_of a._said.now a.nodes.now }
