use Rattle.std.proofs.Common.{refl}
use Rattle.std.proofs.lemmas.Result.{err_from_is_err_and}
use Rattle.kp_script.specs.Call.{Raw}
use Rattle.kp_script.specs.Hex.{bytes_of}
use Rattle.kp_script.proofs.Played.{line_cut, line_handed}
use Rattle.kp_script.proofs.run.play_raw.Goals as goal

pub returns-in_err-bytes : goal.returns-in_err-bytes
returns-in_err-bytes c =
    let q = err_from_is_err_and c.from_residual.result c.from_residual.ensures.1 in
    rw (q.1, q.2) (line_cut (c.args.line, Raw c.args.node (bytes_of c.args.digits.now)) _ _ _ _ c.in_err-bytes.field-0.0 refl c.in_err-bytes.ensures.only)

pub returns : goal.returns
returns c =
    line_handed c.args.line (Raw c.args.node (bytes_of c.args.digits.now)) c.in_ok-bytes.bytes c.produce-receipt.result _ _ _ _ _ (c.in_ok-bytes.ensures.told c.args.node) c.produce-receipt.ensures.step c.produce-receipt.ensures.count
    c.produce-receipt.ensures.first c.tell_receipt.ensures
