use Rattle.std.proofs.Common.{◌≡◌, ◌&&◌, drop}
use Rattle.kp_script.specs.Read.{goes_on}
use Rattle.kp_script.proofs.Values.{no_comma}
use Rattle.kp_script.proofs.fields.go_on.Given as goal

abbrev pub invariant-loop-byte : goal.invariant-loop-byte
invariant-loop-byte l = record {
  on : goes_on l.fn.begun l.bytes ≡ goes_on l.begun (drop l.byte-index l.bytes);
  lone : no_comma l.bytes ≡ (l.lone && no_comma (drop l.byte-index l.bytes));
}
