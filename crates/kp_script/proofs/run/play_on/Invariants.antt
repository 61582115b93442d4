use Rattle.std.proofs.Common.{◌≡◌, ◌+◌, ◌≤◌, ℕ, List, ◌++◌, length}
use Rattle.kp_types.specs.Devices.{device_of, faults_of}
use Rattle.kp_script.specs.Call.{Call}
use Rattle.kp_script.specs.Parsed.{calls_in}
use Rattle.kp_script.specs.Seen.{seen_header}
use Rattle.kp_script.specs.Playing.{HasPlayed, IsWithin, LedTo, left_in}
use Rattle.kp_script.specs.Transcript.{Past}
use Rattle.kp_script.proofs.run.play_on.Given as goal

abbrev pub invariant-loop-section : goal.invariant-loop-section
invariant-loop-section g l = record {
  played : (done : List (ℕ × Call)) × ((calls_in l.fn.script.sections.items ≡ done ++ left_in l.from l.script.sections.items)
      × ((past : Past) → LedTo past (seen_header l.header) l.fn.world
      → HasPlayed past (seen_header l.header) done l.world l.refused (g.W.Write.contents (device_of l.fn.writer)) (g.W.Write.contents (device_of l.writer))));
  within : IsWithin l.from l.script.sections.items;
  nodes : length l.world.nodes ≡ length l.fn.world.nodes;
  first : l.world.first ≡ l.fn.world.first;
  few : l.refused + length (left_in l.from l.script.sections.items) ≤ length (calls_in l.fn.script.sections.items);
  faults : faults_of l.writer ≡ faults_of l.fn.writer;
}

abbrev pub decreases-loop-section : goal.decreases-loop-section
decreases-loop-section g l = length l.script.sections.items + length (left_in l.from l.script.sections.items)
