use Rattle.std.proofs.Common.{◌≡◌, ◌++◌, drop}
use Rattle.kp_cli.specs.Told.{tame_bytes, tamed}
use Rattle.kp_cli.proofs.telling.tame.Given as goal

abbrev pub invariant-loop-byte : goal.invariant-loop-byte
invariant-loop-byte l = record {
  bytes : l.tame.items ++ tame_bytes l.before (drop l.byte-index l.text) ≡ tamed l.text;
}
