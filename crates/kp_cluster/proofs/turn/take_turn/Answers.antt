use Rattle.std.proofs.Common.{of_calls}
use Rattle.kp_cluster.proofs.turn.take_turn.Goals as goal

pub returns-in_err-bring_up : goal.returns-in_err-bring_up
returns-in_err-bring_up g c = (c.bring_up.new.node, c.bring_up.result, c.bring_up.ensures, search of_calls)
