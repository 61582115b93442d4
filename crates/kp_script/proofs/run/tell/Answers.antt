use Rattle.std.proofs.Common.{refl}
use Rattle.std.proofs.lemmas.Result.{err_from_is_err_and}
use Rattle.kp_script.proofs.Counting.{line_lost, line_of}
use Rattle.kp_script.proofs.run.tell.Goals as goal

pub returns-in_err-push_event : goal.returns-in_err-push_event
returns-in_err-push_event c =
    let q = err_from_is_err_and c.from_residual.result c.from_residual.ensures.1 in
    rw (q.1, q.2) (line_lost _ _ _ _ _ _ refl)

pub returns : goal.returns
returns c = line_of _ _ c.args.outcome.now _ _ c.is_err.result c.from.result c.in_ok-push_event.ensures c.from.ensures c.is_err.ensures.value
