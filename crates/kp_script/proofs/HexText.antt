-- The kit's digits of bytes are those of the definitions.
use Rattle.std.proofs.Common.{◌≡◌, ℕ, ◌+◌, ◌-◌, ◌<◌, ◌/◌, ◌%◌, List, [], ◌∷◌, ◌++◌, length, take, drop, refl, sym, ap, ◌∙◌, arith, slice_index, inl, inr, Bool, true, ◌&&◌, ◌==◌, zero, suc, append-nil, drop_of_length-le, length-append, length-drop}
use Rattle.std.proofs.lemmas.Bool.{and_parts, cases_lt, eqb-true}
use Rattle.kp_record.specs.Record.{AreBytes}
use Rattle.std.proofs.Math.Seq.{take-append_seam}
use borrow.Rule.Slice.PartMut.{post_of}
use Rattle.hex.specs.Hex.{encode_lower, encode_with, lower_digits}
use Rattle.kp_words.specs.Words.{hex_digit, hex_text}

-- the test of one place of the table, which computes
abbrev is_digit_at : ℕ → Bool
is_digit_at d = slice_index lower_digits d == hex_digit d

abbrev are_digits : ℕ → Bool
are_digits zero = true
are_digits (suc n) = is_digit_at n && are_digits n

digit_at : (n k : ℕ) → are_digits n ≡ true → k < n → is_digit_at k ≡ true
digit_at zero k h lt = absurd (omega arith)
digit_at (suc n) k h lt =
    let parts = and_parts (is_digit_at n) (are_digits n) h in
    elim (cases_lt k n) [
      | inl below ↦ digit_at n k parts.1 below
      | inr top ↦
          let e : k ≡ n = omega arith in
          rw e parts.0
    ]

digit_of : (k : ℕ) → k < 16 → slice_index lower_digits k ≡ hex_digit k
digit_of k small = eqb-true (slice_index lower_digits k) (hex_digit k) (digit_at 16 k refl small)

-- so are all
pub same_digits : (bytes : List ℕ) → AreBytes bytes → encode_lower bytes ≡ hex_text bytes
unfolding encode_with
same_digits [] all = refl
same_digits (b ∷ bytes) all =
    let small : b < 256 = all.0 in
    let high = digit_of (b / 16) (omega arith) in
    let low = digit_of (b % 16) (omega arith) in
    ap (λ (d : ℕ). d ∷ slice_index lower_digits (b % 16) ∷ encode_lower bytes) high
    ∙ ap (λ (d : ℕ). hex_digit (b / 16) ∷ d ∷ encode_lower bytes) low
    ∙ ap (λ (ds : List ℕ). hex_digit (b / 16) ∷ hex_digit (b % 16) ∷ ds) (same_digits bytes all.1)

-- a text stays in front of what makes it longer
pub front_stays : (a : ℕ) (old fill now : List ℕ) → a ≡ length old → now ≡ old ++ fill → take a now ≡ old
front_stays a old fill now start is = rw (is, start) (take-append_seam old fill)

-- the room behind a text, up to the end of the list, has become this
pub put_behind : (a n : ℕ) (old now new items : List ℕ) → a ≡ length old → take a now ≡ old → n ≡ length now → n ≡ length old + length new →
    take n (take a now ++ (new ++ post_of a (length now - a) now)
    ++ drop (length (take a now ++ (new ++ post_of a (length now - a) now))) items) ≡ old ++ new
put_behind a n old now new items start lead all size =
    let none : post_of a (length now - a) now ≡ [] =
    drop_of_length-le (drop a now) (omega (arith, length-drop a now)) in
    let whole : take a now ++ (new ++ post_of a (length now - a) now) ≡ old ++ new =
    rw (lead, none) (ap (λ (xs : List ℕ). old ++ xs) (append-nil new)) in
    rw whole (
    ap (λ (k : ℕ). take k (old ++ new ++ drop (length (old ++ new)) items)) (size ∙ sym (length-append old new))
    ∙ take-append_seam (old ++ new) (drop (length (old ++ new)) items))
