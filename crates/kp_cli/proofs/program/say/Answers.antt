use Rattle.std.proofs.Common.{refl}
use Rattle.kp_cli.proofs.Lines.{helps, print_failed}
use Rattle.kp_cli.proofs.program.say.Goals as goal

pub returns-in-Err : goal.returns-in-Err
returns-in-Err g c =
    helps g.W.Write.contents g.E.Write.contents c.args.kind c.args.text.now c.args.out.now c.write_all.new.self c.args.err.now
    c.refuse-in-Err.new.err c.refuse-in-Err.result c.in-DisplayHelp.is
    (print_failed g.W.Write.contents g.E.Write.contents c.args.text.now c.args.text.now 0 c.args.out.now c.write_all.new.self
    c.args.err.now c.refuse-in-Err.new.err c.in-Err.refusal c.refuse-in-Err.result refl c.in-Err.ensures.only
    c.in-Err.ensures.err c.in-Err.ensures.counted c.refuse-in-Err.ensures.told c.refuse-in-Err.ensures.status)
