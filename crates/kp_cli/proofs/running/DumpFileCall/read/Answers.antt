use Rattle.std.proofs.Common.{Ok, Err, refl, rules, sym, ap}
use Rattle.kp_types.specs.Devices.{faults_of}
use Rattle.kp_cli.specs.Perform.{faults_in}
use Rattle.kp_cli.proofs.Ending.{inspects_front}
use Rattle.kp_cli.proofs.Lines.{told_since}
use Rattle.kp_cli.proofs.running.DumpFileCall.read.Goals as goal

pub returns-in-Ok-None : goal.returns-in-Ok-None
returns-in-Ok-None g c = (
  Ok 0,
  (c.in-Ok-None.field-0, sym (ap faults_in c.in-Ok-None.field-0-is), c.in-Ok-None.ensures.written),
  search rules,
  search rules,
  refl,
)

pub returns-in-Ok-Some : goal.returns-in-Ok-Some
returns-in-Ok-Some g c = (
  Ok 1,
  (c.in-Ok-Some.field-0, sym (ap faults_in c.in-Ok-Some.field-0-is), c.in-Ok-Some.ensures.written),
  search rules,
  search rules,
  refl,
)

pub returns-in-Err : goal.returns-in-Err
returns-in-Err g c = (
  Err c.in-Err.refusal,
  inspects_front _ _ _ _ c.in-Err.refusal c.in-Err.ensures.only c.in-Err.ensures.front,
  search rules,
  told_since g.R.Explained.fault_is g.E.Write.contents c.args.err.now c.refuse_since.new.err c.in-Err.refusal
      c.inspect.new.reader c.args.path.now c.args.path.now c.faults-faults.result (faults_of c.args.reader.now) refl c.faults-faults.ensures c.refuse_since.ensures.told,
  c.refuse_since.ensures.status,
)
