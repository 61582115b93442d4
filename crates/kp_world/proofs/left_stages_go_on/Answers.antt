use Rattle.kp_world.proofs.Leaving.{left_stages_go_on}
use Rattle.kp_world.proofs.left_stages_go_on.Goals as goal

pub returns : goal.returns
returns c = left_stages_go_on
