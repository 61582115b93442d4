use Rattle.std.specs.Prelude.{codes}
use Rattle.clap.specs.Words.{new_app, with_rule}
use Rattle.kp_cli.specs.Line.{file_rule, keep_rule, left_rule}
use Rattle.kp_cli.proofs.line.run_command.Goals as goal

pub returns-clause-rule : goal.returns-clause-rule
returns-clause-rule c =
    let new = new_app (codes "run") in
    let file = c.with_argument-command.ensures.rule new file_rule c.named_command-command.ensures.rule c.file_argument.ensures.rule in
    let left = c.with_argument-command-2.ensures.rule (with_rule new file_rule) left_rule file c.left_argument.ensures.rule in
    c.with_argument.ensures.rule (with_rule (with_rule new file_rule) left_rule) keep_rule left c.keep_argument.ensures.rule

pub returns-clause-local : goal.returns-clause-local
returns-clause-local c = c.with_argument.ensures.local (c.with_argument-command-2.ensures.local (c.with_argument-command.ensures.local c.named_command-command.ensures.local))
