use Rattle.std.proofs.Common.{◌∙◌, refl}
use Rattle.std.proofs.lemmas.Result.{err_from_is_err_and}
use Rattle.kp_world.specs.Answers.{appended}
use Rattle.kp_script.proofs.Counting.{line_lost, line_of, receipt_refused}
use Rattle.kp_script.proofs.run.tell_receipt.Goals as goal

pub returns-in_err-push_append : goal.returns-in_err-push_append
returns-in_err-push_append c =
    let q = err_from_is_err_and c.from_residual.result c.from_residual.ensures.1 in
    rw (q.1, q.2) (line_lost _ _ _ _ _ _ refl)

pub returns : goal.returns
returns c =
    let receipt = c.args.receipt.now in
    line_of _ _ (appended receipt) _ _ c.is_err.result c.from.result c.in_ok-push_append.ensures c.from.ensures (c.is_err.ensures.value ∙ receipt_refused receipt)
