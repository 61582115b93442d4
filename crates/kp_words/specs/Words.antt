-- Words of the readers' contracts, and of the texts that they read.
use Rattle.std.specs.Prelude.{◌≢◌, ℕ, ◌+◌, ◌/◌, ◌%◌, ◌<◌, ◌^◌, ◌==◌, nat_lt, if◌then◌else◌, List, [], ◌∷◌, ◌++◌}
use Rattle.std.specs.List.{AllByRecursion, flat_map, slice_split}
use Rattle.std.specs.Fmt.{decimal}
use Rattle.std.specs.Int.{IsInRange}

-- No byte is this one.
abbrev pub Lacks : ℕ → List ℕ → Type 0
Lacks byte bytes = AllByRecursion (λ x. x ≢ byte) bytes

abbrev pub BeginsWithNoDigit : List ℕ → Type 0
BeginsWithNoDigit [] = Unit {0}
BeginsWithNoDigit (byte ∷ bytes) = ¬ IsInRange 48 57 byte

-- No number below 2 ^ 64 stands in front of the bytes, with no digit behind it.
abbrev pub SpellsNoNumber : List ℕ → Type 0
SpellsNoNumber bytes = (n : ℕ) (rest : List ℕ) → n < 2 ^ 64 → BeginsWithNoDigit rest → bytes ≢ decimal n ++ rest

-- the pieces of a text between its commas
abbrev pub pieces : List ℕ → List (List ℕ)
pieces text = slice_split (λ byte. byte == 44) text

-- a number below 16 as a digit: 0 to 9, then a to f
abbrev pub hex_digit : ℕ → ℕ
hex_digit n = if nat_lt n 10 then 48 + n else 87 + n

-- each byte as two such digits
abbrev pub hex_text : List ℕ → List ℕ
hex_text bytes = flat_map (λ byte. hex_digit (byte / 16) ∷ hex_digit (byte % 16) ∷ []) bytes
