use Rattle.std.proofs.Common.{◌∙◌, ap}
use Rattle.std.specs.Io.Buffered.{reader_remaining}
use Rattle.kp_script.specs.Reads.{read_faults, reader_of}
use Rattle.kp_cli.proofs.Pipes.{answers, buffered, unread}
use Rattle.kp_cli.proofs.piping.play_input.Goals as goal

pub returns-in-Ok : goal.returns-in-Ok
returns-in-Ok g c =
    let rest = g.I.Read.remaining in
    answers g.W.Write.contents (rest c.args.input) (reader_remaining rest (reader_of c.new-lines.result)) (reader_remaining rest (reader_of c.play_pipe.new.reader)) c.args.out.now c.play_pipe.new.writer
    (read_faults c.new-lines.result) (read_faults c.play_pipe.new.reader) c.play_pipe.result
    (ap (reader_remaining rest) c.new-lines.ensures.reader ∙ buffered rest c.in-Ok.buffered c.args.input c.in-Ok.ensures.inner c.in-Ok.ensures.empty c.in-Ok.ensures.capacity)
    c.play_pipe.ensures.piped c.play_pipe.ensures.cut c.play_pipe.ensures.only c.play_pipe.ensures.counted

pub returns-in-Err : goal.returns-in-Err
returns-in-Err g c = unread g.W.Write.contents (g.I.Read.remaining c.args.input) c.args.out.now c.none.result c.none.ensures
