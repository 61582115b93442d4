use Rattle.std.proofs.Common.{◌≡◌, ◌++◌, take, string_bytes}
use Rattle.std.specs.List.{flat_map}
use Rattle.kp_inspect.specs.Dump.{aborted_line}
use Rattle.kp_inspect.proofs.text.push_aborted.Given as goal

abbrev pub invariant-loop-transaction : goal.invariant-loop-transaction
invariant-loop-transaction l =
    string_bytes l.text ≡ string_bytes l.fn.text ++ flat_map aborted_line (take l.transaction-index l.aborted)
