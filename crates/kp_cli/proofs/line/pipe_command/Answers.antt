use Rattle.std.specs.Prelude.{codes}
use Rattle.clap.specs.Words.{new_app}
use Rattle.kp_cli.specs.Line.{keep_rule}
use Rattle.kp_cli.proofs.line.pipe_command.Goals as goal

pub returns-clause-rule : goal.returns-clause-rule
returns-clause-rule c = c.with_argument.ensures.rule (new_app (codes "pipe")) keep_rule c.named_command-command.ensures.rule c.keep_argument.ensures.rule
