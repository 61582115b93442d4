-- What the parser's values say, apart from where they lie in memory.
use Rattle.std.specs.Prelude.{ℕ, Bool, List, [], ◌∷◌, ◌-◌, ◌^◌, ◌==◌, Option, Some, None, if◌then◌else◌}
use Rattle.kp_script.specs.Call.{Call, Header, Sender, Elect, Append, Raw, Acts, Deliver}
use Rattle.kp_words.specs.Words.{pieces}
use Rattle.kp_script.specs.Hex.{bytes_of}
use Rattle.kp_script.specs.declared.call.Call.{Call as ParsedCall}
use Rattle.kp_script.specs.declared.call.Call.TheVariants as parsed
use Rattle.kp_script.specs.declared.call.Header.{Header as ParsedHeader}
use Rattle.kp_script.specs.declared.call.Sender.{Sender as ParsedSender}
use Rattle.kp_script.specs.declared.script.Line.{Line as ParsedLine}

abbrev pub seen_header : ParsedHeader → Header
seen_header header = record { count = header.count; segment = header.segment; interval = header.interval }

-- a producer field, which is absent where it is the greatest number of its type
abbrev pub field_below : (greatest : ℕ) → ℕ → Option ℕ
field_below greatest n = if n == greatest then None else Some n

abbrev pub seen_sender : ParsedSender → Sender
seen_sender sender =
    record {
      producer = field_below (2 ^ 64 - 1) sender.producer;
      epoch = field_below (2 ^ 16 - 1) sender.epoch;
      sequence = field_below (2 ^ 32 - 1) sender.sequence;
    }

-- the values of an append: one, or those between the commas
abbrev pub seen_values : (lone : Bool) → List ℕ → List (List ℕ)
seen_values lone values = if lone then values ∷ [] else pieces values

abbrev pub seen_call : ParsedCall → Call
seen_call (parsed.Elect node) = Elect node
seen_call (parsed.Append node transactional lone time sender values) = Append node time (seen_sender sender) transactional (seen_values lone values.now)
seen_call (parsed.Raw node digits) = Raw node (bytes_of digits.now)
seen_call (parsed.Acts node act) = Acts node act
seen_call (parsed.Deliver number) = Deliver number

abbrev pub seen_line : ParsedLine → ℕ × Call
seen_line line = (line.number, seen_call line.call)
