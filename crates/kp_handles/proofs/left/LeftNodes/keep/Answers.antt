use Rattle.std.proofs.Common.{arith, ap, length}
use Rattle.kp_handles.specs.Left.{LeftView}
use Rattle.kp_handles.proofs.LeftFacts.{numbered_more}
use Rattle.kp_handles.proofs.left.LeftNodes.keep.Goals as goal

pub invariant_of-self-3 : goal.invariant_of-self-3
invariant_of-self-3 c =
    let seen = ap (λ (v : LeftView). length v.nodes) c.self.view_is in
    numbered_more c.self.inside.nodes.items c.reserve.new.self.items c.push_reserved.new.self.items c.in_ok-node.node c.in_ok-reserve.ensures.items
    c.push_reserved.ensures.items c.self.invariant.0 (omega (arith, seen, c.requires)) c.in_ok-node.ensures.number
