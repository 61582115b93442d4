use Rattle.std.proofs.Common.{◌≡◌, ◌+◌, ◌<◌, ◌^◌, ℕ, List, length}
use Rattle.kp_script.specs.Call.{Call}
use Rattle.kp_script.specs.Seen.{seen_header}
use Rattle.kp_draw.specs.Rows.{Spells, titles_kept}
use Rattle.kp_draw.proofs.Spelled.{SoFar}
use Rattle.kp_draw.proofs.playing.play_rows.Given as goal

abbrev pub invariant-loop-next : goal.invariant-loop-next
invariant-loop-next l = record {
  so_far : (calls : List (ℕ × Call)) → Spells l.header.count (l.first.number + 1) l.first.rest.now calls
      → SoFar l.part (seen_header l.header) l.number l.rest calls l.world (titles_kept l.kept.rows.items);
  nodes : length l.world.nodes ≡ l.header.count;
  first_is : l.world.first ≡ 0;
  room : l.number + length l.rest < 2 ^ 64;
}

abbrev pub decreases-loop-next : goal.decreases-loop-next
decreases-loop-next l = length l.rest
