use Rattle.kp_control.proofs.Words.{one_word}
use Rattle.kp_control.proofs.word.words_are_one.Goals as goal

pub returns : goal.returns
returns c = one_word
