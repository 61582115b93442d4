use Rattle.std.proofs.Common.{◌≡◌, ◌++◌, map, take, string_bytes}
use Rattle.std.specs.List.{flat_map}
use Rattle.kp_segment.specs.Shown.{time_pair}
use Rattle.kp_inspect.specs.Dump.{time_line}
use Rattle.kp_inspect.proofs.text.push_times.Given as goal

abbrev pub invariant-loop-entry : goal.invariant-loop-entry
invariant-loop-entry l =
    string_bytes l.text ≡ string_bytes l.fn.text ++ flat_map time_line (map time_pair (take l.entry-index l.entries))
