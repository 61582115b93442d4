use Rattle.std.proofs.Common.{◌≡◌, ◌&&◌, drop}
use Rattle.std.specs.List.{list_all}
use Rattle.kp_script.specs.Call.{is_value_byte}
use Rattle.kp_script.proofs.fields.are_value_bytes.Given as goal

abbrev pub invariant-loop-byte : goal.invariant-loop-byte
invariant-loop-byte l = list_all is_value_byte l.bytes ≡ (l.are && list_all is_value_byte (drop l.byte-index l.bytes))
