use Rattle.std.proofs.Common.{Ok, Err, refl, rules, ap}
use Rattle.kp_types.specs.Devices.{faults_of}
use Rattle.kp_cli.proofs.Ending.{draw_refused, same_kept}
use Rattle.kp_cli.proofs.Lines.{told_since}
use Rattle.kp_cli.proofs.running.DrawFileCall.read.Goals as goal

pub returns-in-Ok : goal.returns-in-Ok
returns-in-Ok g c = (Ok 0, (refl, c.in-Ok.ensures.drawn), search rules, search rules, refl)

pub returns-in-Err : goal.returns-in-Err
returns-in-Err g c = (
  Err c.in-Err.refusal,
  draw_refused _ _ _ _ c.in-Err.refusal c.in-Err.ensures.only
      (λ line e. (c.in-Err.ensures.fault line (ap Err e), same_kept g.W.Write.contents c.args.out.now c.draw_script.new.writer (c.in-Err.ensures.untouched line (ap Err e))))
      (λ e. same_kept g.W.Write.contents c.args.out.now c.draw_script.new.writer (c.in-Err.ensures.nothing (ap Err e))) c.in-Err.ensures.front,
  c.in-Err.ensures.counted,
  told_since g.R.Explained.fault_is g.E.Write.contents c.args.err.now c.refuse_since.new.err c.in-Err.refusal
      c.draw_script.new.reader c.args.path.now c.args.path.now c.faults-faults.result (faults_of c.args.reader.now) refl c.faults-faults.ensures c.refuse_since.ensures.told,
  c.refuse_since.ensures.status,
)
