use Rattle.std.proofs.Common.{◌≡◌, ◌≤◌, ◌*◌, ◌++◌, drop, length}
use Rattle.kp_cli.specs.Told.{shown_bytes}
use Rattle.kp_cli.proofs.telling.show_bytes.Given as goal

abbrev pub invariant-loop-byte : goal.invariant-loop-byte
invariant-loop-byte l = record {
  bytes : l.shown.items ++ shown_bytes l.before (drop l.byte-index l.path) ≡ shown_bytes 0 l.path;
  short : length l.shown.items ≤ 4 * l.byte-index;
}
