use Rattle.std.proofs.Common.{◌≡◌}
use Rattle.kp_model.specs.World.{initial}
use Rattle.kp_node.proofs.NextLives.{next_is, restart_refused}
use Rattle.kp_node.proofs.closing.in_next_life.Goals as goal

pub returns-in-Ok-clause-next : goal.returns-in-Ok-clause-next
returns-in-Ok-clause-next c = next_is c.args.kept c.in-Ok.replica c.stop.result _ _ _ c.in-Ok.ensures.restarted c.stop.ensures.kept

pub returns-in-Err-clause-refused : goal.returns-in-Err-clause-refused
returns-in-Err-clause-refused c = restart_refused (initial 0) c.args.kept.number c.args.kept.state _ c.in-Err.back.1 (c.in-Err.ensures.refused (initial 0)).0 c.refusal-refusal.ensures.down
