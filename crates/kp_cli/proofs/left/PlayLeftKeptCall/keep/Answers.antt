use Rattle.std.proofs.Common.{◌∙◌, ◌++◌, ℕ, Ok, Err, inl, inr, refl, ap}
use Rattle.kp_types.specs.Devices.{faults_of}
use Rattle.kp_script.specs.declared.left.CutRun.TheVariants.{Run}
use Rattle.kp_cli.specs.Perform.{status_of}
use Rattle.kp_cli.specs.Told.{reason_of}
use Rattle.kp_types.proofs.Filing.{put_none}
use Rattle.kp_cli.proofs.Ending.{counted_apart, fault_status, fault_told, kept_counted, left_cut, refusal_status, refusal_told, same_kept}
use Rattle.kp_cli.proofs.Lines.{no_reason, told_first, told_second, told_since}
use Rattle.kp_cli.proofs.left.PlayLeftKeptCall.keep.Goals as goal

pub returns-in-Ok-write_left : goal.returns-in-Ok-write_left
returns-in-Ok-write_left g c = inr record {
  entered = c.enter.new.self;
  enters = c.in_default.ensures;
  read = c.play_left.new.folder;
  outcome = Ok c.in-Ok.ended.refused;
  runs = inr (c.in-Ok.ended, c.in-Ok.ensures.played, (refl, c.in-Ok-write_left.ensures.ok));
  counted = inl (c.in-Ok.ensures.counted, c.in-Ok-write_left.ensures.counted);
  complains = refl;
  status_is = c.end.ensures ∙ ap (λ (n : ℕ). status_of (Ok n)) c.refused.ensures;
}

pub returns-in-Ok : goal.returns-in-Ok
returns-in-Ok g c = inr record {
  entered = c.enter.new.self;
  enters = c.in_default.ensures;
  read = c.play_left.new.folder;
  outcome = Err (Run c.in-Err-write_left.refusal);
  runs = inr (c.in-Ok.ended, c.in-Ok.ensures.played, (c.in-Err-write_left.ensures.only, c.in-Err-write_left.ensures.err));
  counted = kept_counted c.in-Err-write_left.refusal c.in-Err-write_left.ensures.only _ _ _ _ _ _ c.in-Ok.ensures.counted c.in-Err-write_left.ensures.counted;
  complains = told_second g.E.Write.contents c.args.err.now c.refuse_since.new.err c.in-Err-write_left.refusal
      (reason_of g.R.Explained.fault_is c.args.path.now (faults_of c.args.reader.now) c.play_left.new.reader)
      (reason_of g.K.Explained.fault_is c.args.keep.now (faults_of c.args.folder.now) c.write_left.new.folder)
      (no_reason g.R.Explained.fault_is c.args.path.now (faults_of c.args.reader.now) c.play_left.new.reader c.in-Ok.ensures.counted.0)
      (told_since g.K.Explained.fault_is g.E.Write.contents c.args.err.now c.refuse_since.new.err c.in-Err-write_left.refusal
      c.write_left.new.folder c.args.keep.now c.args.keep.now c.faults-put.result (faults_of c.args.folder.now) refl c.faults-put.ensures c.refuse_since.ensures.told);
  status_is = c.refuse_since.ensures.status;
}

pub returns-in-Err-Run : goal.returns-in-Err-Run
returns-in-Err-Run g c = inr record {
  entered = c.enter.new.self;
  enters = c.in_default.ensures;
  read = c.play_left.new.folder;
  outcome = Err c.in-Err-Run.field-0;
  runs = inl (
    c.in-Err-Run.field-0,
    refl,
    left_cut (g.L.ReadFolder.files c.enter.new.self) _ _ _ c.in-Err-Run.field-0 c.in-Err-Run.ensures.only
        (λ line e. (c.in-Err-Run.ensures.line line (ap Err e), same_kept g.W.Write.contents c.args.out.now c.play_left.new.writer (c.in-Err-Run.ensures.untouched line (ap Err e))))
        (λ fault e. (c.in-Err-Run.ensures.fault fault (ap Err e), same_kept g.W.Write.contents c.args.out.now c.play_left.new.writer (c.in-Err-Run.ensures.unwritten fault (ap Err e))))
        (λ e. c.in-Err-Run.ensures.first (ap Err e)) c.in-Err-Run.ensures.front,
    put_none _,
  );
  counted = inl (counted_apart c.in-Err-Run.field-0 _ _ _ _ c.in-Err-Run.ensures.counted, refl);
  complains = refusal_told g.E.Write.contents c.args.self.from.now (g.L.Explained.fault_is c.play_left.new.folder) (reason_of g.R.Explained.fault_is c.args.path.now (faults_of c.args.reader.now) c.play_left.new.reader ++ reason_of g.K.Explained.fault_is c.args.keep.now (faults_of c.args.folder.now) c.args.folder.now) c.args.err.now c.refuse_since-in-Err-Run.new.err
      c.in-Err-Run.field-0 c.in-Err-Run.refusal _ c.in-Err-Run.field-0-is c.in-Err-Run.refusal-is
      (told_first g.E.Write.contents c.args.err.now c.refuse_since-in-Err-Run.new.err _
      (reason_of g.R.Explained.fault_is c.args.path.now (faults_of c.args.reader.now) c.play_left.new.reader)
      (reason_of g.K.Explained.fault_is c.args.keep.now (faults_of c.args.folder.now) c.args.folder.now)
      (no_reason g.K.Explained.fault_is c.args.keep.now (faults_of c.args.folder.now) c.args.folder.now refl)
      (told_since g.R.Explained.fault_is g.E.Write.contents c.args.err.now c.refuse_since-in-Err-Run.new.err _
      c.play_left.new.reader c.args.path.now c.args.path.now c.faults-read.result (faults_of c.args.reader.now) refl c.faults-read.ensures c.refuse_since-in-Err-Run.ensures.told));
  status_is = refusal_status c.in-Err-Run.field-0 c.in-Err-Run.refusal _ c.refuse_since-in-Err-Run.result c.in-Err-Run.field-0-is c.in-Err-Run.refusal-is c.refuse_since-in-Err-Run.ensures.status;
}

pub returns : goal.returns
returns g c = inr record {
  entered = c.enter.new.self;
  enters = c.in_default.ensures;
  read = c.play_left.new.folder;
  outcome = Err c.in-Err-Folder.field-0;
  runs = inl (
    c.in-Err-Folder.field-0,
    refl,
    left_cut (g.L.ReadFolder.files c.enter.new.self) _ _ _ c.in-Err-Folder.field-0 c.in-Err-Folder.ensures.only
        (λ line e. (c.in-Err-Folder.ensures.line line (ap Err e), same_kept g.W.Write.contents c.args.out.now c.play_left.new.writer (c.in-Err-Folder.ensures.untouched line (ap Err e))))
        (λ fault e. (c.in-Err-Folder.ensures.fault fault (ap Err e), same_kept g.W.Write.contents c.args.out.now c.play_left.new.writer (c.in-Err-Folder.ensures.unwritten fault (ap Err e))))
        (λ e. c.in-Err-Folder.ensures.first (ap Err e)) c.in-Err-Folder.ensures.front,
    put_none _,
  );
  counted = inl (counted_apart c.in-Err-Folder.field-0 _ _ _ _ c.in-Err-Folder.ensures.counted, refl);
  complains = fault_told g.E.Write.contents c.args.self.from.now (g.L.Explained.fault_is c.play_left.new.folder) c.fault.result (reason_of g.R.Explained.fault_is c.args.path.now (faults_of c.args.reader.now) c.play_left.new.reader ++ reason_of g.K.Explained.fault_is c.args.keep.now (faults_of c.args.folder.now) c.args.folder.now) c.args.err.now c.refuse_folder.new.err
      c.in-Err-Folder.field-0 c.in-Err-Folder.fault _ c.in-Err-Folder.field-0-is c.fault.ensures c.in-Err-Folder.fault-is c.refuse_folder.ensures.told;
  status_is = fault_status c.in-Err-Folder.field-0 c.in-Err-Folder.fault _ c.refuse_folder.result c.in-Err-Folder.field-0-is c.in-Err-Folder.fault-is c.refuse_folder.ensures.status;
}
