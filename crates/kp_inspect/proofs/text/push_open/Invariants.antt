use Rattle.std.proofs.Common.{◌≡◌, ◌++◌, string_bytes}
use Rattle.std.specs.List.{flat_map}
use Rattle.kp_txns.specs.Open.{open_left}
use Rattle.kp_inspect.specs.Dump.{open_line}
use Rattle.kp_inspect.proofs.text.push_open.Given as goal

abbrev pub invariant-loop-transaction : goal.invariant-loop-transaction
invariant-loop-transaction l =
    string_bytes l.text ++ flat_map open_line (open_left l.transaction-iterator) ≡ string_bytes l.fn.text ++ flat_map open_line (open_left l.fn.transactions)
