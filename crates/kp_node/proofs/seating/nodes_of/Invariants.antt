use Rattle.std.proofs.Common.{◌≡◌, map}
use Rattle.kp_node.specs.Seats.{fresh_seat}
use Rattle.kp_node.proofs.seating.nodes_of.Given as goal

abbrev pub invariant-loop-pass : goal.invariant-loop-pass
invariant-loop-pass g l = l.nodes.items ≡ map (λ f. fresh_seat l.limits f.pass) l.yielded
