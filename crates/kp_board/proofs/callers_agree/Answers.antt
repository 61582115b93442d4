use Rattle.kp_board.proofs.MarkWord.{callers_agree}
use Rattle.kp_board.proofs.callers_agree.Goals as goal

pub returns : goal.returns
returns c = callers_agree
