use Rattle.std.proofs.Common.{refl}
use Rattle.std.proofs.lemmas.Result.{err_from_is_err_and}
use Rattle.kp_script.specs.Sections.{append_call}
use Rattle.kp_script.specs.Seen.{seen_sender}
use Rattle.kp_script.proofs.Played.{line_cut, line_handed}
use Rattle.kp_script.proofs.Spelling.{values_short}
use Rattle.kp_script.proofs.run.play_values.Goals as goal

pub batch_of-requires-clause-short : goal.batch_of-requires-clause-short
batch_of-requires-clause-short c =
    let line = c.args.line.now in
    values_short line.node line.time (seen_sender line.sender) line.transactional c.args.lone line.values.now c.requires.0.short

pub returns-in_err-bytes : goal.returns-in_err-bytes
returns-in_err-bytes c =
    let q = err_from_is_err_and c.from_residual.result c.from_residual.ensures.1 in
    rw (q.1, q.2) (line_cut (append_call c.args.lone c.args.line.now) _ _ _ _ c.in_err-bytes.field-0.0 refl c.in_err-bytes.ensures.only)

pub returns : goal.returns
returns c =
    let line = c.args.line.now in
    line_handed line.number (append_call c.args.lone line).1 c.in_ok-bytes.bytes c.produce-receipt.result _ _ _ _ _ (c.in_ok-bytes.ensures.told line.node) c.produce-receipt.ensures.step c.produce-receipt.ensures.count
    c.produce-receipt.ensures.first c.tell_receipt.ensures
