use Rattle.std.proofs.Common.{◌≡◌, ◌≤◌, length, map, vec_capacity}
use Rattle.kp_node.specs.Closes.{AreReady}
use Rattle.kp_node.proofs.closing.part.Given as goal

abbrev pub invariant-loop-node : goal.invariant-loop-node
invariant-loop-node g l =
    record {
      passes : l.passes.items ≡ map (λ s. s.pass) l.yielded;
      kept : l.kept.items ≡ map (λ s. s.node) l.yielded;
      ready : AreReady l.yielded;
      room : length l.fn.nodes.items ≤ vec_capacity l.passes;
      room_kept : length l.fn.nodes.items ≤ vec_capacity l.kept;
    }
