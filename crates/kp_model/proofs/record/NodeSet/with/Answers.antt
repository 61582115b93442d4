use Rattle.std.proofs.Common.{◌<◌, length, arith}
use Rattle.kp_model.proofs.Plain.Changed.{with_place}
use Rattle.kp_model.proofs.record.NodeSet.with.Goals as goal

pub returns : goal.returns
returns c =
    let within : c.from.result < length c.args.self.now.members = omega arith in
    with_place c.args.node 0 c.from.result c.args.self.now.members within (omega (arith, c.from.ensures))
