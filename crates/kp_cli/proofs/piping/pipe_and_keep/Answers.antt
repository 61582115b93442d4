use Rattle.std.proofs.Common.{◌∙◌, ℕ, Ok, Err, refl, ap}
use Rattle.kp_types.specs.Devices.{faults_of}
use Rattle.kp_cli.specs.Perform.{status_of}
use Rattle.kp_cli.specs.Told.{reason_of}
use Rattle.kp_cli.proofs.Lines.{no_reason, told_alone, told_since}
use Rattle.kp_cli.proofs.piping.pipe_and_keep.Goals as goal

pub returns-in-Ok-write_left : goal.returns-in-Ok-write_left
returns-in-Ok-write_left g c = record {
  piped = Ok c.in-Ok.piped;
  answers = c.in-Ok.ensures;
  kept = Ok tt;
  keeps = c.in-Ok-write_left.ensures.ok;
  counted = c.in-Ok-write_left.ensures.counted;
  complains = refl;
  status_is = c.end.ensures ∙ ap (λ (n : ℕ). status_of (Ok n)) c.refused.ensures;
}

pub returns-in-Ok : goal.returns-in-Ok
returns-in-Ok g c = record {
  piped = Ok c.in-Ok.piped;
  answers = c.in-Ok.ensures;
  kept = Err c.in-Err-write_left.refusal;
  keeps = (c.in-Err-write_left.ensures.only, c.in-Err-write_left.ensures.err);
  counted = c.in-Err-write_left.ensures.counted;
  complains =
      told_since g.K.Explained.fault_is g.E.Write.contents c.args.err.now c.refuse_since.new.err c.in-Err-write_left.refusal c.write_left.new.folder c.args.keep.now c.args.keep.now
      c.faults-put.result (faults_of c.args.folder.now) refl c.faults-put.ensures c.refuse_since.ensures.told;
  status_is = c.refuse_since.ensures.status;
}

pub returns-in-Ok-write_left-2 : goal.returns-in-Ok-write_left-2
returns-in-Ok-write_left-2 g c = record {
  piped = Err c.in-Err.cut;
  answers = c.in-Err.ensures;
  kept = Ok tt;
  keeps = c.in-Ok-write_left-2.ensures.ok;
  counted = c.in-Ok-write_left-2.ensures.counted;
  complains =
      told_alone g.E.Write.contents c.args.err.now c.refuse.new.err c.in-Err.cut.refusal
      (reason_of g.K.Explained.fault_is c.args.keep.now (faults_of c.args.folder.now) c.write_left-in-Err.new.folder)
      (no_reason g.K.Explained.fault_is c.args.keep.now (faults_of c.args.folder.now) c.write_left-in-Err.new.folder c.in-Ok-write_left-2.ensures.counted) c.refuse.ensures.told;
  status_is = c.refuse.ensures.status;
}

pub returns : goal.returns
returns g c = record {
  piped = Err c.in-Err.cut;
  answers = c.in-Err.ensures;
  kept = Err c.in-Err-write_left-2.refusal;
  keeps = (c.in-Err-write_left-2.ensures.only, c.in-Err-write_left-2.ensures.err);
  counted = c.in-Err-write_left-2.ensures.counted;
  complains =
      told_since g.K.Explained.fault_is g.E.Write.contents c.args.err.now c.refuse_since-in-Err-write_left-2.new.err c.in-Err-write_left-2.refusal c.write_left-in-Err.new.folder
      c.args.keep.now c.args.keep.now c.faults-put.result (faults_of c.args.folder.now) refl c.faults-put.ensures c.refuse_since-in-Err-write_left-2.ensures.told;
  status_is = c.refuse_since-in-Err-write_left-2.ensures.status;
}
