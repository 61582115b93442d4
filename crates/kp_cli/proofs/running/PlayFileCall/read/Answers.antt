use Rattle.std.proofs.Common.{◌∙◌, ℕ, Ok, Err, refl, ap}
use Rattle.kp_types.specs.Devices.{faults_of}
use Rattle.kp_cli.proofs.Ending.{ran, run_refused, same_kept}
use Rattle.kp_cli.specs.Perform.{status_of}
use Rattle.kp_cli.proofs.Lines.{told_since}
use Rattle.kp_cli.proofs.running.PlayFileCall.read.Goals as goal

pub returns-in-Ok : goal.returns-in-Ok
returns-in-Ok g c = (
  Ok c.in-Ok.ended.refused,
  ran _ _ _ c.in-Ok.ended c.in-Ok.ensures.played,
  c.in-Ok.ensures.counted,
  refl,
  c.end.ensures ∙ ap (λ (n : ℕ). status_of (Ok n)) c.refused.ensures,
)

pub returns-in-Err : goal.returns-in-Err
returns-in-Err g c = (
  Err c.in-Err.refusal,
  run_refused _ _ _ c.in-Err.refusal c.in-Err.ensures.only
      (λ line e. (c.in-Err.ensures.fault line (ap Err e), same_kept g.W.Write.contents c.args.out.now c.play_script.new.writer (c.in-Err.ensures.untouched line (ap Err e))))
      (λ e. c.in-Err.ensures.first (ap Err e)) c.in-Err.ensures.front,
  c.in-Err.ensures.counted,
  told_since g.R.Explained.fault_is g.E.Write.contents c.args.err.now c.refuse_since.new.err c.in-Err.refusal
      c.play_script.new.reader c.args.path.now c.args.path.now c.faults-faults.result (faults_of c.args.reader.now) refl c.faults-faults.ensures c.refuse_since.ensures.told,
  c.refuse_since.ensures.status,
)
