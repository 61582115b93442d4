use Rattle.std.specs.Prelude.{codes}
use Rattle.clap.specs.Words.{with_rule}
use Rattle.kp_cli.specs.Line.{race_rule, racers_app}
use Rattle.kp_cli.proofs.line.race_command.Goals as goal

pub returns-clause-rule : goal.returns-clause-rule
returns-clause-rule c =
    let batches = race_rule (codes "batches") 0 10000 in
    let moves = race_rule (codes "moves") 0 1000 in
    c.with_argument.ensures.rule (with_rule racers_app batches) moves
    (c.with_argument-command.ensures.rule racers_app batches c.racers_command-command.ensures.rule c.number_argument-batches.ensures.rule) c.number_argument-moves.ensures.rule
