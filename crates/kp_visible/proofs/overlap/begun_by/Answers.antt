use Rattle.std.proofs.Common.{◌≡◌, true, leb, ap, arith, subst}
use Rattle.std.proofs.lemmas.Bool.{le-leb}
use Rattle.kp_model.specs.Transactions.{Aborted}
use Rattle.kp_visible.proofs.Overlaps.{on_err}
use Rattle.kp_visible.proofs.Tests.{passing_is_kept}
use Rattle.kp_visible.proofs.overlap.begun_by.Goals as goal

pub returns-in_err-push-clause-needed : goal.returns-in_err-push-clause-needed
returns-in_err-push-clause-needed c =
    let at = c.ended-item.result in
    let passes : leb at.first c.args.offset ≡ true =
    le-leb at.first c.args.offset (omega (arith, c.if-ended-offset.true, ap (λ (a : Aborted). a.first) c.ended.view_is)) in
    on_err c.from_residual.result _
    (passing_is_kept (λ a. leb a.first c.args.offset) c.args.aborted.now c.loop-ended.ended-index at c.loop-ended-test.true (subst (λ (a : Aborted). leb a.first c.args.offset ≡ true) c.ended-item.is passes))
