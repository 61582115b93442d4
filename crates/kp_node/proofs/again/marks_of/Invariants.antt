use Rattle.std.proofs.Common.{◌≡◌, map, take}
use Rattle.kp_node.proofs.again.marks_of.Given as goal

abbrev pub invariant-loop-node : goal.invariant-loop-node
invariant-loop-node l = l.marks.items ≡ map (λ m. m.state.watermark) (take l.node-index l.nodes)
