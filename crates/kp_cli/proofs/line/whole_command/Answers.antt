use Rattle.kp_cli.specs.Line.{draw_app, inspect_app, kpart_app, kpart_piping, kpart_racing, kpart_reading, pipe_app, race_app, run_app}
use Rattle.clap.specs.Words.{with_subcommand}
use Rattle.kp_cli.proofs.line.whole_command.Goals as goal

pub returns : goal.returns
returns c =
    let running = c.add_subcommand-running.ensures kpart_app run_app c.program.ensures c.run_command.ensures.rule in
    let reading = c.add_subcommand-reading.ensures (with_subcommand kpart_app run_app.top) inspect_app running c.inspect_command.ensures.rule in
    let racing = c.add_subcommand-racing.ensures kpart_reading race_app reading c.race_command.ensures.rule in
    let piping = c.add_subcommand-piping.ensures kpart_racing pipe_app racing c.pipe_command.ensures.rule in
    c.add_subcommand.ensures kpart_piping draw_app piping c.draw_command.ensures.rule
