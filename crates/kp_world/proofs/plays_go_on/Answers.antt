use Rattle.kp_world.proofs.GoingOn.{plays_go_on as all_go_on}
use Rattle.kp_world.proofs.plays_go_on.Goals as goal

pub returns : goal.returns
returns c =
    all_go_on c.runs_are_safe.ensures c.no_delivery_is_refused_oddly.ensures c.runs_keep_count.ensures c.messages_go_to_nodes.ensures c.runs_keep_logs.ensures c.runs_keep_kin.ensures
    c.serve_is_the_step.ensures c.take_is_the_step.ensures c.cut_is_the_step.ensures
