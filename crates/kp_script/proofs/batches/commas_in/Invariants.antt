use Rattle.std.proofs.Common.{◌≡◌, ◌≤◌, eqb, take}
use Rattle.std.specs.List.{count_by}
use Rattle.kp_script.proofs.batches.commas_in.Given as goal

abbrev pub invariant-loop-byte : goal.invariant-loop-byte
invariant-loop-byte l = record {
  count : l.commas ≡ count_by (λ byte. eqb byte 44) (take l.byte-index l.values);
  most : l.commas ≤ l.byte-index;
}
