use Rattle.std.proofs.Common.{◌≡◌, ◌++◌, map, take, string_bytes}
use Rattle.std.specs.List.{flat_map}
use Rattle.kp_segment.specs.Shown.{offset_pair}
use Rattle.kp_inspect.specs.Dump.{offset_line}
use Rattle.kp_inspect.proofs.text.push_offsets.Given as goal

abbrev pub invariant-loop-entry : goal.invariant-loop-entry
invariant-loop-entry l =
    string_bytes l.text ≡ string_bytes l.fn.text ++ flat_map offset_line (map offset_pair (take l.entry-index l.entries))
