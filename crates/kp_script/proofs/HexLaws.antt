-- Laws of hexadecimal digits: each byte has one text, and each text of digits is that of one list of bytes.
use Rattle.std.proofs.Common.{◌≡◌, ℕ, ◌+◌, ◌-◌, ◌*◌, ◌/◌, ◌%◌, ◌<◌, ◌≤◌, true, false, not, ◌&&◌, eqb, ltb, leb, List, [], ◌∷◌, refl, sym, ap, ◌∙◌, arith, inl, inr, length}
use Rattle.std.proofs.lemmas.Bool.{cases_Bool, cases_lt, and_parts, and_from, or_cases, leb-true, le-leb, lt-leb, lt-ltb, le-ltb, eqb-true, eqb-false, eq-eqb, ne_eqb, not-true, false≢true}
use Rattle.std.specs.List.{list_all}
use Rattle.kp_record.specs.Record.{AreBytes}
use Rattle.kp_script.specs.Hex.{is_number_digit, is_letter_digit, is_hex_digit, is_hex, hex_value, bytes_of}
use Rattle.kp_words.specs.Words.{hex_digit, hex_text}

-- what a digit stands for is below 16
pub value_small : (digit : ℕ) → hex_value digit < 16
value_small digit = elim (cases_Bool (is_number_digit digit)) [
  | inl holds ↦
      let most = leb-true digit 57 (and_parts (leb 48 digit) (leb digit 57) holds).1 in
      rw holds (omega arith)
  | inr fails ↦
      elim (cases_Bool (is_letter_digit digit)) [
        | inl holds ↦
            let most = leb-true digit 102 (and_parts (leb 97 digit) (leb digit 102) holds).1 in
            rw (fails, holds) (omega arith)
        | inr other ↦ rw (fails, other) (omega arith)
      ]
]

-- a digit is the digit of what it stands for
pub digit_back : (digit : ℕ) → is_hex_digit digit ≡ true → hex_digit (hex_value digit) ≡ digit
digit_back digit lawful = elim (cases_Bool (is_number_digit digit)) [
  | inl holds ↦
      let parts = and_parts (leb 48 digit) (leb digit 57) holds in
      let least = leb-true 48 digit parts.0 in
      let most = leb-true digit 57 parts.1 in
      let low : ltb (digit - 48) 10 ≡ true = lt-ltb (digit - 48) 10 (omega arith) in
      let back : 48 + (digit - 48) ≡ digit = omega arith in
      rw holds (rw low back)
  | inr fails ↦
      elim (or_cases (is_number_digit digit) (is_letter_digit digit) lawful) [
        | inl holds ↦ absurd (false≢true (sym fails ∙ holds))
        | inr letter ↦
            let parts = and_parts (leb 97 digit) (leb digit 102) letter in
            let least = leb-true 97 digit parts.0 in
            let high : ltb (digit - 87) 10 ≡ false = le-ltb (digit - 87) 10 (omega arith) in
            let back : 87 + (digit - 87) ≡ digit = omega arith in
            rw (fails, letter) (rw high back)
      ]
]

-- a number below 16 has a digit, which stands for it
pub value_back : (n : ℕ) → n < 16 → (is_hex_digit (hex_digit n) ≡ true) × (hex_value (hex_digit n) ≡ n)
value_back n small = elim (cases_lt n 10) [
  | inl low ↦
      let digit : hex_digit n ≡ 48 + n = rw (lt-ltb n 10 low) refl in
      let number : is_number_digit (48 + n) ≡ true = and_from (leb 48 (48 + n)) (leb (48 + n) 57) (le-leb 48 (48 + n) (omega arith)) (le-leb (48 + n) 57 (omega arith)) in
      let back : 48 + n - 48 ≡ n = omega arith in
      (rw digit (rw number refl), rw digit (rw number back))
  | inr high ↦
      let digit : hex_digit n ≡ 87 + n = rw (le-ltb n 10 high) refl in
      let number : is_number_digit (87 + n) ≡ false = rw (lt-leb (87 + n) 57 (omega arith)) (rw (le-leb 48 (87 + n) (omega arith)) refl) in
      let letter : is_letter_digit (87 + n) ≡ true = and_from (leb 97 (87 + n)) (leb (87 + n) 102) (le-leb 97 (87 + n) (omega arith)) (le-leb (87 + n) 102 (omega arith)) in
      let back : 87 + n - 87 ≡ n = omega arith in
      (rw digit (rw (number, letter) refl), rw digit (rw (number, letter) back))
]

-- the digits of a byte of two digits
pub halves : (high low : ℕ) → low < 16 → ((16 * high + low) / 16 ≡ high) × ((16 * high + low) % 16 ≡ low)
halves high low small = (omega arith, omega arith)

-- digits are the text of the bytes that they spell
pub text_back : (digits : List ℕ) → length digits % 2 ≡ 0 → list_all is_hex_digit digits ≡ true → hex_text (bytes_of digits) ≡ digits
text_back [] even all = refl
text_back (digit ∷ []) even all = absurd (omega arith)
text_back (high ∷ low ∷ digits) even all =
    let first = and_parts (is_hex_digit high) (list_all is_hex_digit (low ∷ digits)) all in
    let second = and_parts (is_hex_digit low) (list_all is_hex_digit digits) first.1 in
    let rest = text_back digits (omega arith) second.1 in
    let parts = halves (hex_value high) (hex_value low) (value_small low) in
    let one : hex_digit ((16 * hex_value high + hex_value low) / 16) ≡ high = ap hex_digit parts.0 ∙ digit_back high first.0 in
    let two : hex_digit ((16 * hex_value high + hex_value low) % 16) ≡ low = ap hex_digit parts.1 ∙ digit_back low second.0 in
    ap (λ (d : ℕ). d ∷ hex_digit ((16 * hex_value high + hex_value low) % 16) ∷ hex_text (bytes_of digits)) one
    ∙ ap (λ (d : ℕ). high ∷ d ∷ hex_text (bytes_of digits)) two
    ∙ ap (λ (ds : List ℕ). high ∷ low ∷ ds) rest

-- bytes are those that their text spells, so no two lists of bytes have one text
pub bytes_back : (bytes : List ℕ) → AreBytes bytes → bytes_of (hex_text bytes) ≡ bytes
bytes_back [] all = refl
bytes_back (byte ∷ bytes) all =
    let small : byte < 256 = all.0 in
    let high = (value_back (byte / 16) (omega arith)).1 in
    let low = (value_back (byte % 16) (omega arith)).1 in
    let whole : 16 * hex_value (hex_digit (byte / 16)) + hex_value (hex_digit (byte % 16)) ≡ byte = omega arith in
    ap (λ (b : ℕ). b ∷ bytes_of (hex_text bytes)) whole ∙ ap (λ (bs : List ℕ). byte ∷ bs) (bytes_back bytes all.1)

-- a text of bytes has two digits for each
pub text_length : (bytes : List ℕ) → length (hex_text bytes) ≡ 2 * length bytes
text_length [] = refl
text_length (byte ∷ bytes) = let rest = text_length bytes in omega arith

pub text_digits : (bytes : List ℕ) → AreBytes bytes → list_all is_hex_digit (hex_text bytes) ≡ true
text_digits [] all = refl
text_digits (byte ∷ bytes) all =
    let small : byte < 256 = all.0 in
    and_from (is_hex_digit (hex_digit (byte / 16))) (list_all is_hex_digit (hex_digit (byte % 16) ∷ hex_text bytes))
    (value_back (byte / 16) (omega arith)).0
    (and_from (is_hex_digit (hex_digit (byte % 16))) (list_all is_hex_digit (hex_text bytes))
    (value_back (byte % 16) (omega arith)).0 (text_digits bytes all.1))

-- a text of bytes is digits, of an even number
pub text_is_hex : (bytes : List ℕ) → 0 < length bytes → AreBytes bytes → is_hex (hex_text bytes) ≡ true
text_is_hex bytes some all =
    let long = text_length bytes in
    and_from (not (eqb (length (hex_text bytes)) 0) && eqb (length (hex_text bytes) % 2) 0) (list_all is_hex_digit (hex_text bytes))
    (and_from (not (eqb (length (hex_text bytes)) 0)) (eqb (length (hex_text bytes) % 2) 0)
    (ap not (ne_eqb (length (hex_text bytes)) 0 (λ none. omega arith))) (eq-eqb (length (hex_text bytes) % 2) 0 (omega arith)))
    (text_digits bytes all)

-- what digits spell is bytes
pub bytes_small : (digits : List ℕ) → AreBytes (bytes_of digits)
bytes_small [] = tt
bytes_small (digit ∷ []) = tt
bytes_small (high ∷ low ∷ digits) =
    let one = value_small high in
    let two = value_small low in
    (omega arith, bytes_small digits)

-- what two digits or more spell is not nothing
pub bytes_some : (digits : List ℕ) → 2 ≤ length digits → 0 < length (bytes_of digits)
bytes_some [] some = absurd (omega arith)
bytes_some (digit ∷ []) some = absurd (omega arith)
bytes_some (high ∷ low ∷ digits) some = omega arith

-- what lawful digits say
pub record Digits (digits : List ℕ) : Type 0 where
  pub some : 0 < length (bytes_of digits)
  pub bytes : AreBytes (bytes_of digits)
  pub text : digits ≡ hex_text (bytes_of digits)

pub digits_of : (digits : List ℕ) → is_hex digits ≡ true → Digits digits
digits_of digits lawful =
    let parts = and_parts (not (eqb (length digits) 0) && eqb (length digits % 2) 0) (list_all is_hex_digit digits) lawful in
    let lengths = and_parts (not (eqb (length digits) 0)) (eqb (length digits % 2) 0) parts.0 in
    let some = eqb-false (length digits) 0 (not-true (eqb (length digits) 0) lengths.0) in
    let even = eqb-true (length digits % 2) 0 lengths.1 in
    record {
      some = bytes_some digits (omega arith);
      bytes = bytes_small digits;
      text = sym (text_back digits even parts.1);
    }
