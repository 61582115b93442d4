use Rattle.kp_model.specs.Set.{record_of}
use Rattle.kp_node.specs.Again.{opening_of}
use Rattle.kp_node.proofs.again.open_again.Given as goal

abbrev pub ghosts-new : goal.ghosts-new
ghosts-new g a = record { opening = opening_of (record_of a.controller.now) a._said.now.now g.E.Promise.list }
