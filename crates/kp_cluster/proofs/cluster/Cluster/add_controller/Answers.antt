use Rattle.std.proofs.Common.{arith, ◌∙◌}
use Rattle.std.proofs.lemmas.Result.{IfOk-from_err, on_err_weaker, on_ok_weaker}
use Rattle.std.specs.Vec.{vec_len}
use Rattle.kp_types.proofs.Causes.{always}
use Rattle.kp_cluster.proofs.Fewer.{fewer, with_one}
use Rattle.kp_cluster.proofs.cluster.Cluster.add_controller.Goals as goal

pub returns-in_err-board-clause-ok : goal.returns-in_err-board-clause-ok
returns-in_err-board-clause-ok g c = IfOk-from_err c.from_residual.result _ c.from_residual.ensures.0

pub returns-in_err-board-clause-err : goal.returns-in_err-board-clause-err
returns-in_err-board-clause-err g c =
    always c.from_residual.result (fewer _ (vec_len c.args.nodes.now) (omega (arith, c.requires.nodes)) (omega (arith, c.in-Some.ensures.item)))

pub returns-clause-ok : goal.returns-clause-ok
returns-clause-ok g c =
    on_ok_weaker c.add.result (λ e. e ∙ with_one _ (vec_len c.args.nodes.now) c.requires.nodes (omega (arith, c.in-Some.ensures.item))) c.add.ensures.ok

pub returns-clause-err : goal.returns-clause-err
returns-clause-err g c =
    on_err_weaker c.add.result (λ e. fewer _ (vec_len c.args.nodes.now) (omega (arith, e, c.requires.nodes)) (omega (arith, c.in-Some.ensures.item))) c.add.ensures.err

pub returns-clause-refusal : goal.returns-clause-refusal
returns-clause-refusal g c = c.add.ensures.refusal
