use Rattle.std.proofs.Common.{◌∙◌, ℕ, Ok, Err, inl, inr, refl, ap}
use Rattle.kp_types.proofs.Filing.{put_none}
use Rattle.kp_types.specs.Devices.{faults_of}
use Rattle.kp_cli.specs.Told.{reason_of}
use Rattle.kp_cli.proofs.Ending.{kept_counted, run_refused, same_kept}
use Rattle.kp_cli.specs.Perform.{status_of}
use Rattle.kp_cli.proofs.Lines.{no_reason, told_first, told_second, told_since}
use Rattle.kp_cli.proofs.running.run_and_keep.Goals as goal

pub returns-in-Err : goal.returns-in-Err
returns-in-Err g c = (
  Err c.in-Err.refusal,
  inl (
    c.in-Err.refusal,
    refl,
    run_refused _ _ _ c.in-Err.refusal c.in-Err.ensures.only
        (λ line e. (c.in-Err.ensures.fault line (ap Err e), same_kept g.W.Write.contents c.args.out.now c.play_script.new.writer (c.in-Err.ensures.untouched line (ap Err e))))
        (λ e. c.in-Err.ensures.first (ap Err e)) c.in-Err.ensures.front,
    put_none _,
  ),
  inl (c.in-Err.ensures.counted, refl),
  told_first g.E.Write.contents c.args.err.now c.refuse_since.new.err c.in-Err.refusal
      (reason_of g.R.Explained.fault_is c.args.file.now (faults_of c.args.reader.now) c.play_script.new.reader)
      (reason_of g.K.Explained.fault_is c.args.keep.now (faults_of c.args.folder.now) c.args.folder.now)
      (no_reason g.K.Explained.fault_is c.args.keep.now (faults_of c.args.folder.now) c.args.folder.now refl)
      (told_since g.R.Explained.fault_is g.E.Write.contents c.args.err.now c.refuse_since.new.err c.in-Err.refusal
      c.play_script.new.reader c.args.file.now c.args.file.now c.faults-read.result (faults_of c.args.reader.now) refl c.faults-read.ensures c.refuse_since.ensures.told),
  c.refuse_since.ensures.status,
)

pub returns-in-Ok-write_left : goal.returns-in-Ok-write_left
returns-in-Ok-write_left g c = (
  Ok c.in-Ok.ended.refused,
  inr (c.in-Ok.ended, c.in-Ok.ensures.played, (refl, c.in-Ok-write_left.ensures.ok)),
  inl (c.in-Ok.ensures.counted, c.in-Ok-write_left.ensures.counted),
  refl,
  c.end.ensures ∙ ap (λ (n : ℕ). status_of (Ok n)) c.refused.ensures,
)

pub returns-in-Err-write_left : goal.returns-in-Err-write_left
returns-in-Err-write_left g c = (
  Err c.in-Err-write_left.refusal,
  inr (c.in-Ok.ended, c.in-Ok.ensures.played, (c.in-Err-write_left.ensures.only, c.in-Err-write_left.ensures.err)),
  kept_counted c.in-Err-write_left.refusal c.in-Err-write_left.ensures.only _ _ _ _ _ _ c.in-Ok.ensures.counted c.in-Err-write_left.ensures.counted,
  told_second g.E.Write.contents c.args.err.now c.refuse_since-in-Err-write_left.new.err c.in-Err-write_left.refusal
      (reason_of g.R.Explained.fault_is c.args.file.now (faults_of c.args.reader.now) c.play_script.new.reader)
      (reason_of g.K.Explained.fault_is c.args.keep.now (faults_of c.args.folder.now) c.write_left.new.folder)
      (no_reason g.R.Explained.fault_is c.args.file.now (faults_of c.args.reader.now) c.play_script.new.reader c.in-Ok.ensures.counted.0)
      (told_since g.K.Explained.fault_is g.E.Write.contents c.args.err.now c.refuse_since-in-Err-write_left.new.err c.in-Err-write_left.refusal
      c.write_left.new.folder c.args.keep.now c.args.keep.now c.faults-put.result (faults_of c.args.folder.now) refl c.faults-put.ensures c.refuse_since-in-Err-write_left.ensures.told),
  c.refuse_since-in-Err-write_left.ensures.status,
)
