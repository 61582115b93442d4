use Rattle.std.proofs.Common.{◌≡◌, ◌≤◌, ◌∷◌, ◌++◌, length, take}
use Rattle.std.specs.List.{flat_map}
use Rattle.kp_script.specs.Trace.{line_text}
use Rattle.kp_script.proofs.trace.push_lines.Given as goal

abbrev pub invariant-loop-place : goal.invariant-loop-place
invariant-loop-place l = record {
  text : l.text.items ≡ l.initial.text.items ++ flat_map (λ x. 32 ∷ line_text x) (take l.place l.lines);
  within : l.place ≤ length l.lines;
  end : l.place-end ≡ length l.lines;
}
