use Rattle.std.proofs.Common.{◌≡◌, ◌-◌, ◌≤◌, length, take, drop}
use Rattle.kp_script.specs.Playing.{PlayedOut}
use Rattle.kp_script.proofs.run.play_lines.Given as goal

abbrev pub invariant-loop-played : goal.invariant-loop-played
invariant-loop-played g l = record {
  within : l.played ≤ l.left;
  out : PlayedOut (take l.played (drop l.from l.section)) l.fn.world l.world l.refused l.work.text.items;
  nodes : length l.world.nodes ≡ length l.fn.world.nodes;
  first : l.world.first ≡ l.fn.world.first;
  few : l.refused ≤ l.played;
}

abbrev pub decreases-loop-played : goal.decreases-loop-played
decreases-loop-played g l = l.left - l.played
