-- What hexadecimal digits in lower case spell, two for each byte.
use Rattle.std.specs.Prelude.{ℕ, ◌+◌, ◌-◌, ◌*◌, ◌%◌, Bool, not, ◌&&◌, ◌||◌, ◌==◌, nat_le, List, [], ◌∷◌, length, if◌then◌else◌}
use Rattle.std.specs.List.{list_all}

-- 0 to 9
abbrev pub is_number_digit : ℕ → Bool
is_number_digit digit = nat_le 48 digit && nat_le digit 57

-- a to f
abbrev pub is_letter_digit : ℕ → Bool
is_letter_digit digit = nat_le 97 digit && nat_le digit 102

abbrev pub is_hex_digit : ℕ → Bool
is_hex_digit digit = is_number_digit digit || is_letter_digit digit

-- An even number of digits, and not none.
abbrev pub is_hex : List ℕ → Bool
is_hex digits = not (length digits == 0) && length digits % 2 == 0 && list_all is_hex_digit digits

-- the number below 16 that a digit stands for; what is no digit counts as 0
abbrev pub hex_value : ℕ → ℕ
hex_value digit =
    if is_number_digit digit then digit - 48 else (if is_letter_digit digit then digit - 87 else 0)

-- the bytes that the digits spell, each by two of them
abbrev pub bytes_of : List ℕ → List ℕ
bytes_of (high ∷ low ∷ digits) = (16 * hex_value high + hex_value low) ∷ bytes_of digits
bytes_of _ = []
