use Rattle.kp_model.specs.Controller.{elected}
use Rattle.kp_board.proofs.board.Board.elect.Given as goal

abbrev pub ghosts-exchange : goal.ghosts-exchange
ghosts-exchange g a = record { node = a.node; record_after = elected a.pass.now.shown a.node }
