use Rattle.std.proofs.Common.{◌≡◌, ◌++◌, map, take, string_bytes}
use Rattle.std.specs.List.{flat_map}
use Rattle.kp_segment.specs.Shown.{kept_shows}
use Rattle.kp_inspect.specs.Texts.{shown_lines}
use Rattle.kp_inspect.proofs.text.push_segments.Given as goal

abbrev pub invariant-loop-segment : goal.invariant-loop-segment
invariant-loop-segment l =
    string_bytes l.text ≡ string_bytes l.fn.text ++ flat_map shown_lines (map kept_shows (take l.segment-index l.segments))
