use Rattle.std.proofs.Common.{◌≡◌, map, take}
use Rattle.kp_folder.specs.Left.{start_pair}
use Rattle.kp_folder.proofs.writing.starts_in.Given as goal

abbrev pub invariant-loop-entry : goal.invariant-loop-entry
invariant-loop-entry l = map start_pair l.starts.items ≡ take l.entry-index l.entry-items
