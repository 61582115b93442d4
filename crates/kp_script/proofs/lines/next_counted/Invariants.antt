use Rattle.std.proofs.Common.{◌≡◌, ◌+◌, ◌≤◌, length}
use Rattle.kp_script.specs.Lines.{lines, counted_from}
use Rattle.kp_script.proofs.lines.next_counted.Given as goal

abbrev pub invariant-loop-line : goal.invariant-loop-line
invariant-loop-line l = record {
  counted : counted_from l.number l.rest ≡ counted_from l.fn.number l.fn.bytes;
  count : l.number + length (lines l.rest) ≡ l.fn.number + length (lines l.fn.bytes);
  shorter : length l.rest ≤ length l.fn.bytes;
  room : l.number + length l.rest ≤ l.fn.number + length l.fn.bytes;
}

abbrev pub decreases-loop-line : goal.decreases-loop-line
decreases-loop-line l = length l.rest
