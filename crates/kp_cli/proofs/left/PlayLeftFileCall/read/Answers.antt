use Rattle.std.proofs.Common.{◌∙◌, ℕ, Ok, Err, inr, refl, ap}
use Rattle.kp_types.specs.Devices.{faults_of}
use Rattle.kp_cli.specs.Perform.{status_of}
use Rattle.kp_cli.specs.Told.{reason_of}
use Rattle.kp_cli.proofs.Ending.{counted_apart, fault_status, fault_told, left_cut, left_ran, refusal_status, refusal_told, same_kept}
use Rattle.kp_cli.proofs.Lines.{told_since}
use Rattle.kp_cli.proofs.left.PlayLeftFileCall.read.Goals as goal

pub returns-in-Ok : goal.returns-in-Ok
returns-in-Ok g c = inr record {
  entered = c.enter.new.self;
  enters = c.in_default.ensures;
  read = c.play_left.new.folder;
  outcome = Ok c.in-Ok.ended.refused;
  runs = left_ran (g.L.ReadFolder.files c.enter.new.self) _ _ _ c.in-Ok.ended c.in-Ok.ensures.played;
  counted = c.in-Ok.ensures.counted;
  complains = refl;
  status_is = c.end.ensures ∙ ap (λ (n : ℕ). status_of (Ok n)) c.refused.ensures;
}

pub returns-in-Err-Run : goal.returns-in-Err-Run
returns-in-Err-Run g c = inr record {
  entered = c.enter.new.self;
  enters = c.in_default.ensures;
  read = c.play_left.new.folder;
  outcome = Err c.in-Err-Run.field-0;
  runs = left_cut (g.L.ReadFolder.files c.enter.new.self) _ _ _ c.in-Err-Run.field-0 c.in-Err-Run.ensures.only
      (λ line e. (c.in-Err-Run.ensures.line line (ap Err e), same_kept g.W.Write.contents c.args.out.now c.play_left.new.writer (c.in-Err-Run.ensures.untouched line (ap Err e))))
      (λ fault e. (c.in-Err-Run.ensures.fault fault (ap Err e), same_kept g.W.Write.contents c.args.out.now c.play_left.new.writer (c.in-Err-Run.ensures.unwritten fault (ap Err e))))
      (λ e. c.in-Err-Run.ensures.first (ap Err e)) c.in-Err-Run.ensures.front;
  counted = counted_apart c.in-Err-Run.field-0 _ _ _ _ c.in-Err-Run.ensures.counted;
  complains = refusal_told g.E.Write.contents c.args.self.from.now (g.L.Explained.fault_is c.play_left.new.folder) (reason_of g.R.Explained.fault_is c.args.path.now (faults_of c.args.reader.now) c.play_left.new.reader) c.args.err.now c.refuse_since.new.err
      c.in-Err-Run.field-0 c.in-Err-Run.refusal _ c.in-Err-Run.field-0-is c.in-Err-Run.refusal-is
      (told_since g.R.Explained.fault_is g.E.Write.contents c.args.err.now c.refuse_since.new.err _
      c.play_left.new.reader c.args.path.now c.args.path.now c.faults-faults.result (faults_of c.args.reader.now) refl c.faults-faults.ensures c.refuse_since.ensures.told);
  status_is = refusal_status c.in-Err-Run.field-0 c.in-Err-Run.refusal _ c.refuse_since.result c.in-Err-Run.field-0-is c.in-Err-Run.refusal-is c.refuse_since.ensures.status;
}

pub returns : goal.returns
returns g c = inr record {
  entered = c.enter.new.self;
  enters = c.in_default.ensures;
  read = c.play_left.new.folder;
  outcome = Err c.in-Err-Folder.field-0;
  runs = left_cut (g.L.ReadFolder.files c.enter.new.self) _ _ _ c.in-Err-Folder.field-0 c.in-Err-Folder.ensures.only
      (λ line e. (c.in-Err-Folder.ensures.line line (ap Err e), same_kept g.W.Write.contents c.args.out.now c.play_left.new.writer (c.in-Err-Folder.ensures.untouched line (ap Err e))))
      (λ fault e. (c.in-Err-Folder.ensures.fault fault (ap Err e), same_kept g.W.Write.contents c.args.out.now c.play_left.new.writer (c.in-Err-Folder.ensures.unwritten fault (ap Err e))))
      (λ e. c.in-Err-Folder.ensures.first (ap Err e)) c.in-Err-Folder.ensures.front;
  counted = counted_apart c.in-Err-Folder.field-0 _ _ _ _ c.in-Err-Folder.ensures.counted;
  complains = fault_told g.E.Write.contents c.args.self.from.now (g.L.Explained.fault_is c.play_left.new.folder) c.fault.result (reason_of g.R.Explained.fault_is c.args.path.now (faults_of c.args.reader.now) c.play_left.new.reader) c.args.err.now c.refuse_folder.new.err
      c.in-Err-Folder.field-0 c.in-Err-Folder.fault _ c.in-Err-Folder.field-0-is c.fault.ensures c.in-Err-Folder.fault-is c.refuse_folder.ensures.told;
  status_is = fault_status c.in-Err-Folder.field-0 c.in-Err-Folder.fault _ c.refuse_folder.result c.in-Err-Folder.field-0-is c.in-Err-Folder.fault-is c.refuse_folder.ensures.status;
}
