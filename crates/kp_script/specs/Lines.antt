-- The lines of a script, and which of them count.
use Rattle.std.specs.Prelude.{ℕ, Bool, ◌&&◌, ◌||◌, ◌==◌, not, nat_lt, nat_le, List, [], ◌∷◌, Option, None, Some, length, slice_index, filter, if◌then◌else◌}
use Rattle.std.specs.List.{onto_first, list_all, enumerate_from}

-- Each line ends with a line feed, or at the end of the bytes. So an empty last piece is no line.
abbrev pub lines : List ℕ → List (List ℕ)
lines [] = []
lines (byte ∷ bytes) = if byte == 10 then [] ∷ lines bytes else onto_first byte (lines bytes)

-- The byte comes first in the first of these lines: in a last one that lacks its line feed, where there is none yet.
abbrev pub onto_sent : ℕ → List (Option (List ℕ)) → List (Option (List ℕ))
onto_sent byte [] = None ∷ []
onto_sent byte (None ∷ lines) = None ∷ lines
onto_sent byte (Some line ∷ lines) = Some (byte ∷ line) ∷ lines

-- The lines of bytes that come one by one (own rule): of each the bytes before its line feed; and of a last one that isn't empty and lacks its
-- line feed none, since who wrote it may have written a beginning of it alone.
abbrev pub sent_lines : List ℕ → List (Option (List ℕ))
sent_lines [] = []
sent_lines (byte ∷ bytes) = if byte == 10 then Some [] ∷ sent_lines bytes else onto_sent byte (sent_lines bytes)

-- A line is passed over that is empty or begins with `#`, has only bytes below 128, and is no longer than 2,100,000 bytes.
abbrev pub is_passed_over : List ℕ → Bool
is_passed_over line = (length line == 0 || slice_index line 0 == 35) && list_all (λ byte. nat_lt byte 128) line && nat_le (length line) 2100000

-- the lines that count among the lines of these bytes, each with its number, the first line's being number
abbrev pub counted_from : ℕ → List ℕ → List (ℕ × List ℕ)
counted_from number bytes = filter (λ line. not (is_passed_over line.1)) (enumerate_from number (lines bytes))

-- the lines that count, each with its number from 1
abbrev pub counted : List ℕ → List (ℕ × List ℕ)
counted bytes = counted_from 1 bytes
