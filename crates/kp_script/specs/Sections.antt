-- What a section of a script keeps of its events.
use Rattle.std.specs.Prelude.{ℕ, ◌≤◌, Bool, List, length, slice_range}
use Rattle.kp_script.specs.Call.{Call, Elect, Append, Raw, Acts, Deliver}
use Rattle.kp_script.specs.Hex.{bytes_of}
use Rattle.kp_script.specs.Seen.{seen_sender, seen_values}
use Rattle.kp_script.specs.declared.section.AppendLine.{AppendLine}
use Rattle.kp_script.specs.declared.section.Asked.{Asked}
use Rattle.kp_script.specs.declared.section.Asked.TheVariants as asked
use Rattle.kp_script.specs.declared.section.KeptLine.{KeptLine}
use Rattle.kp_script.specs.declared.section.Place.{Place}

-- the bytes at a place
abbrev pub bytes_at : List ℕ → Place → List ℕ
bytes_at bytes place = slice_range bytes place.from place.to

-- what is asked for, where the values or digits stand among these bytes
abbrev pub kept_call : List ℕ → Asked → Call
kept_call bytes (asked.Elect node) = Elect node
kept_call bytes (asked.Append node transactional lone time sender values) = Append node time (seen_sender sender) transactional (seen_values lone (bytes_at bytes values))
kept_call bytes (asked.Raw node digits) = Raw node (bytes_of (bytes_at bytes digits))
kept_call bytes (asked.Acts node act) = Acts node act
kept_call bytes (asked.Deliver number) = Deliver number

abbrev pub kept_line : List ℕ → KeptLine → ℕ × Call
kept_line bytes line = (line.number, kept_call bytes line.asked)

-- an append of one value, or of those between the commas
abbrev pub append_call : (lone : Bool) → AppendLine → ℕ × Call
append_call lone line = (line.number, Append line.node line.time (seen_sender line.sender) line.transactional (seen_values lone line.values.now))

-- There are bytes at the place.
abbrev pub IsPlaceIn : List ℕ → Place → Type 0
IsPlaceIn bytes place = (place.from ≤ place.to) × (place.to ≤ length bytes)

-- The values or digits stand among these bytes.
abbrev pub IsHeldBy : List ℕ → Asked → Type 0
IsHeldBy bytes (asked.Append node transactional lone time sender values) = IsPlaceIn bytes values
IsHeldBy bytes (asked.Raw node digits) = IsPlaceIn bytes digits
IsHeldBy bytes _ = Unit {0}
