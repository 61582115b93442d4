use Rattle.std.proofs.Common.{◌≡◌, ◌++◌, length}
use Rattle.std.specs.Prelude.{map}
use Rattle.kp_record.specs.Made.{plain_record, record_made}
use Rattle.kp_words.specs.Words.{pieces}
use Rattle.kp_script.proofs.batches.put_parts.Given as goal

-- the records so far, and those of what is left, are those of all
abbrev pub invariant-loop-value : goal.invariant-loop-value
invariant-loop-value l =
    map record_made l.parts.items ++ map (plain_record l.time) (pieces l.rest) ≡ map (plain_record l.time) (pieces l.values)

abbrev pub decreases-loop-value : goal.decreases-loop-value
decreases-loop-value l = length l.rest
