use Rattle.std.proofs.Common.{◌≡◌, ℕ, ◌<◌, length, map, get_or}
use Rattle.kp_model.specs.World.{fresh}
use Rattle.kp_replica.specs.NumberedNode.{NumberedNode}
use Rattle.kp_world.specs.Shown.{IsNode}
use Rattle.kp_replica.specs.Broker.{node_at}
use Rattle.kp_world.proofs.world.World.start.Given as goal

abbrev pub invariant-loop-number : goal.invariant-loop-number
invariant-loop-number l = record {
  count : length l.nodes.items ≡ l.number;
  nodes : (n : ℕ) (d : NumberedNode) → n < l.number → IsNode l.limits n (get_or (map node_at l.nodes.items) n d) fresh;
}
