use Rattle.std.proofs.Common.{arith, rules}
use Rattle.std.proofs.lemmas.Result.{IfOk-from_err}
use Rattle.std.specs.Vec.{vec_len}
use Rattle.kp_types.proofs.Causes.{always}
use Rattle.kp_cluster.proofs.Fewer.{fewer}
use Rattle.kp_cluster.proofs.cluster.Cluster.add_all.Goals as goal

pub loop-node-preserved : goal.loop-node-preserved
loop-node-preserved g c = search rules

pub returns-in_err-node-clause-ok : goal.returns-in_err-node-clause-ok
returns-in_err-node-clause-ok g c = IfOk-from_err c.from_residual.result _ c.from_residual.ensures.0

pub returns-in_err-node-clause-err : goal.returns-in_err-node-clause-err
returns-in_err-node-clause-err g c =
    let i = c.loop-node.invariant in
    always c.from_residual.result (fewer c.loop-node.self (vec_len c.args.nodes.now) (omega arith) (omega arith))

pub returns-in_err-add-clause-ok : goal.returns-in_err-add-clause-ok
returns-in_err-add-clause-ok g c = IfOk-from_err c.from_residual-in_err-add.result _ c.from_residual-in_err-add.ensures.0

pub returns-in_err-add-clause-err : goal.returns-in_err-add-clause-err
returns-in_err-add-clause-err g c =
    let i = c.loop-node.invariant in
    let e = c.in_err-add.ensures.err in
    always c.from_residual-in_err-add.result (fewer c.add.new.self (vec_len c.args.nodes.now) (omega arith) (omega arith))
