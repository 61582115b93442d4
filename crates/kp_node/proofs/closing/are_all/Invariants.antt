use Rattle.std.proofs.Common.{map, take}
use Rattle.kp_node.specs.Seats.{AreNumbered}
use Rattle.kp_node.proofs.closing.are_all.Given as goal

abbrev pub invariant-loop-index : goal.invariant-loop-index
invariant-loop-index g l = AreNumbered 0 (map (λ s. s.node) (take l.index l.nodes))
