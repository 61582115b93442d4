use Rattle.std.proofs.Common.{◌<◌, length, refl, arith}
use Rattle.std.proofs.lemmas.Grind.{common_steps}
use Rattle.kp_handles.specs.declared.misuse.Misuse.TheVariants.{NoRoom}
use Rattle.kp_handles.proofs.Waiting.{some_left}
use Rattle.kp_handles.proofs.clusters.node_of.Goals as goal

pub returns-in_default-clause-only : goal.returns-in_default-clause-only
returns-in_default-clause-only g c =
    let some : 0 < length c.args.cluster.now.waiting.items = grind (arith, common_steps) in
    some_left c.args.cluster.now.board.value c.args.cluster.now.callers c.args.cluster.now.waiting.items NoRoom refl some
