-- What a race counts (own rule).
use Rattle.std.specs.Prelude.{ℕ, min}

-- a sum of counts as a u64 has it
abbrev pub at_most_64 : ℕ → ℕ
at_most_64 n = min n 18446744073709551615
