use Rattle.std.proofs.Common.{◌<◌, ◌≤◌, ◌+◌, length, sym, arith}
use Rattle.kp_model.proofs.Plain.Changed.{without_place, without_none}
use Rattle.kp_model.proofs.record.NodeSet.without.Goals as goal

pub returns-then-place-lt7 : goal.returns-then-place-lt7
returns-then-place-lt7 c =
    let within : c.from-place.result < length c.args.self.now.members = omega arith in
    without_place c.args.node 0 c.from-place.result c.args.self.now.members within (omega (arith, c.from-place.ensures))

pub returns-else-place-lt7 : goal.returns-else-place-lt7
returns-else-place-lt7 c =
    let past : 0 + length c.args.self.now.members ≤ c.args.node = omega (arith, c.from-place.ensures) in
    sym (without_none c.args.node 0 c.args.self.now.members past)
