use Rattle.std.specs.Prelude.{codes}
use Rattle.clap.specs.Words.{new_app, with_rule}
use Rattle.kp_cli.specs.Line.{race_rule}
use Rattle.kp_cli.proofs.line.racers_command.Goals as goal

pub returns-clause-rule : goal.returns-clause-rule
returns-clause-rule c =
    let new = new_app (codes "race") in
    let nodes = race_rule (codes "nodes") 1 7 in
    let producers = race_rule (codes "producers") 1 8 in
    c.with_argument.ensures.rule (with_rule new nodes) producers
    (c.with_argument-command.ensures.rule new nodes c.named_command-command.ensures.rule c.number_argument-nodes.ensures.rule) c.number_argument-producers.ensures.rule
