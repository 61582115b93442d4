use Rattle.std.proofs.Common.{◌≡◌, ◌≤◌, length, vec_capacity}
use Rattle.std.specs.VecDeque.{deque_len}
use Rattle.kp_world.specs.Plays.{PlaysFirst}
use Rattle.kp_world.proofs.world.World.play.Given as goal

abbrev pub invariant-loop-event : goal.invariant-loop-event
invariant-loop-event l = record {
  count : length l.self.nodes ≡ length l.fn.self.nodes;
  first : l.self.first ≡ l.fn.self.first;
  room : length l.fn.events.items ≤ vec_capacity l.outcomes;
  played : PlaysFirst l.fn.self l.self l.fn.events.items l.events.items l.outcomes.items;
}

abbrev pub decreases-loop-event : goal.decreases-loop-event
decreases-loop-event l = deque_len l.events
