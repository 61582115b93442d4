use Rattle.std.proofs.Common.{arith, ◌+◌, ◌<◌, ◌^◌}
use Rattle.kp_handles.proofs.LeftFacts.{faulty, lives_on}
use Rattle.kp_handles.proofs.left.LeftNodes.next_node.Goals as goal

pub returns-in-Some-clause-refused : goal.returns-in-Some-clause-refused
returns-in-Some-clause-refused c =
    let life = c.args.kept.now.life in
    let small : life < 2 ^ 64 = omega (arith, c.fits-kept) in
    let lives : life + 1 < 2 ^ 64 = lives_on life small c.if-kept.false in
    faulty c.args.bytes.now c.args.kept.now c.args.self.now c.in_ok-found.found.batches.items c.in_ok-found.found.size c.in_ok-found.found.fault c.in-Some.refusal
    lives c.in_ok-found.ensures.found c.in-Some.is
