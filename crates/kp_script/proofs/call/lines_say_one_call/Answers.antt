use Rattle.kp_script.proofs.Apart.{one_call}
use Rattle.kp_script.proofs.call.lines_say_one_call.Goals as goal

pub returns : goal.returns
returns c = one_call
