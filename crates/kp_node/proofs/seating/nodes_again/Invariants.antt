use Rattle.std.proofs.Common.{◌≡◌, ◌++◌, length, map}
use Rattle.kp_node.specs.Seats.{AreSeats, seated}
use Rattle.kp_node.proofs.seating.nodes_again.Given as goal

abbrev pub invariant-loop-alloc : goal.invariant-loop-alloc
invariant-loop-alloc g l =
    AreSeats (map (λ p. p.pass) l.waiting.items) l.left.items
    × (l.nodes.items ++ seated (map (λ p. p.pass) l.waiting.items) l.left.items ≡ seated (map (λ p. p.pass) l.fn.passes.items) l.fn.kept.items)

abbrev pub decreases-loop-alloc : goal.decreases-loop-alloc
decreases-loop-alloc g l = length l.waiting.items
