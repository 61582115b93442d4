use Rattle.std.proofs.Common.{refl, true}
use Rattle.std.proofs.lemmas.Result.{err_from_is_err_and}
use Rattle.kp_script.specs.Sections.{append_call}
use Rattle.kp_script.proofs.Played.{line_cut, line_handed}
use Rattle.kp_script.proofs.run.play_lone.Goals as goal

pub returns-in_err-bytes : goal.returns-in_err-bytes
returns-in_err-bytes c =
    let q = err_from_is_err_and c.from_residual.result c.from_residual.ensures.1 in
    rw (q.1, q.2) (line_cut (append_call true c.args.lone.now) _ _ _ _ c.in_err-bytes.field-0.0 refl c.in_err-bytes.ensures.only)

pub returns : goal.returns
returns c =
    let lone = c.args.lone.now in
    line_handed lone.number (append_call true lone).1 c.in_ok-bytes.bytes c.produce-receipt.result _ _ _ _ _ (c.in_ok-bytes.ensures.told lone.node) c.produce-receipt.ensures.step c.produce-receipt.ensures.count
    c.produce-receipt.ensures.first c.tell_receipt.ensures
