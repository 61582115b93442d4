-- Laws of the spelling of a number in decimal digits.
use Rattle.std.proofs.Common.{◌≡◌, ℕ, zero, suc, ◌+◌, ◌*◌, ◌<◌, ◌≤◌, ◌^◌, List, [], ◌∷◌, ◌++◌, refl, sym, ap, ◌∙◌, arith, ◌-◌, length, get_or, take, drop, subst, inl, inr, lit<}
use Rattle.std.proofs.lemmas.Bool.{cases_lt}
use Rattle.std.proofs.lemmas.Int.Digits.{digits_value_more, digits_more}
use Rattle.std.proofs.lemmas.Str.{digit_value_digit}
use Rattle.std.proofs.lemmas.Str.Parse.{IsNumeralModel, numerals_by_value, tells_digits, digit_from_value, digit_at, digits_value-take-le}
use Rattle.std.proofs.lemmas.Fmt.{decimal_is_IsNumeral, decimal-digits_value, decimal_nonempty, first_decimal, decimal_digit, decimal_injective}
use Rattle.std.proofs.lemmas.List.{append_cancel_left, append-nil, take-append-drop, take-append-le, drop_more, drop_all, get_or_append_left}
use Rattle.std.proofs.lemmas.Grind.{pow_more}
use native.Mathlib.Nat.{pow-le-pow_right}
use Rattle.std.specs.Char.{digit_value}
use Rattle.std.specs.Fmt.{decimal}
use Rattle.std.specs.Int.{IsInRange}
use Rattle.std.specs.Str.Parse.{AllDigits, digits_value}
use Rattle.kp_words.specs.Words.{Lacks, BeginsWithNoDigit}
use Rattle.kp_words.proofs.Splitting.{one_parting}

own : IsNumeralModel (AllDigits 10) (digits_value 10)
own = numerals_by_value (AllDigits 10) tells_digits

-- a digit's value is below ten
pub digit_value_is : (c : ℕ) → 48 ≤ c → c ≤ 57 → digit_value c + 48 ≡ c
digit_value_is c low high = digit_value_digit c (low, high)

-- one more digit
pub digits_grow : (bytes : List ℕ) (i value : ℕ) → i < length bytes → AllDigits 10 (take i bytes) → value ≡ digits_value 10 (take i bytes) →
    48 ≤ get_or bytes i 0 → get_or bytes i 0 ≤ 57 →
    AllDigits 10 (take (i + 1) bytes) × (value * 10 + (get_or bytes i 0 - 48) ≡ digits_value 10 (take (i + 1) bytes))
digits_grow bytes i value lt all is low high =
    let digit : digit_value (get_or bytes i 0) + 48 ≡ get_or bytes i 0 = digit_value_is (get_or bytes i 0) low high in
    let more : digits_value 10 (take (i + 1) bytes) ≡ digits_value 10 (take i bytes) * 10 + digit_value (get_or bytes i 0) = digits_value_more 10 bytes i lt in
    (digits_more 10 bytes i lt all (omega arith), omega arith)

-- a number of few digits has room for one more
pub digit_fits : (d value digit : ℕ) → d < 18 → value < 10 ^ d → digit ≤ 9 → (10 * value + digit < 10 ^ (d + 1)) × (10 * value + digit < 10000000000000000000)
digit_fits d value digit few fits low =
    let within : d ≤ 18 = omega (arith, few) in
    let most : 10 ^ d ≤ 10 ^ 18 = pow-le-pow_right (lit< tt) within in
    let next : 10 ^ (d + 1) ≡ 10 ^ d * 10 = pow_more 10 d in
    (omega (arith, next, fits, low), omega (arith, most, fits, low))

-- digits without a zero in front are the spelling of their value
pub spelled : (bytes : List ℕ) (n : ℕ) → AllDigits 10 bytes → 0 < length bytes → (get_or bytes 0 0 ≡ 48 → length bytes ≡ 1) → n ≡ digits_value 10 bytes → n < 2 ^ 64 → bytes ≡ decimal n
spelled bytes n all some canonical is fits =
    sym (decimal-digits_value own bytes all some canonical (omega arith)) ∙ ap decimal (sym is)

-- a spelling has a digit
pub some_digit : (bytes : List ℕ) (n : ℕ) → n < 2 ^ 64 → bytes ≡ decimal n → 0 < length bytes
some_digit bytes n fits e = omega (arith, decimal_nonempty n fits, ap length e)

-- a spelling of more than one digit does not begin with a zero
pub no_leading_zero : (bytes : List ℕ) (n : ℕ) → n < 2 ^ 64 → bytes ≡ decimal n → get_or bytes 0 0 ≡ 48 → 1 < length bytes → ⊥
no_leading_zero bytes n fits e zero_first long = elim (cases_lt 0 n) [
  | inl some ↦
      let first : 48 < get_or (decimal n) 0 0 = first_decimal n some fits in
      let same : get_or bytes 0 0 ≡ get_or (decimal n) 0 0 = ap (λ (l : List ℕ). get_or l 0 0) e in
      omega arith
  | inr none ↦
      let one : decimal n ≡ (48 + n) ∷ [] = decimal_digit n (omega arith) in
      omega (arith, ap length (e ∙ one))
]

-- each byte of a spelling is a digit
pub each_digit : (bytes : List ℕ) (n i : ℕ) → n < 2 ^ 64 → bytes ≡ decimal n → i < length bytes → IsInRange 48 57 (get_or bytes i 0)
each_digit bytes n i fits e lt =
    digit_at bytes i (subst (AllDigits 10) (sym e) (decimal_is_IsNumeral n fits).0.1) lt

-- the digits so far and the next one stand for no more than the number
pub front_below : (bytes : List ℕ) (n i value : ℕ) → n < 2 ^ 64 → bytes ≡ decimal n → i < length bytes → value ≡ digits_value 10 (take i bytes) →
    value * 10 + (get_or bytes i 0 - 48) ≤ n
front_below bytes n i value fits e lt is =
    let range : IsInRange 48 57 (get_or bytes i 0) = each_digit bytes n i fits e lt in
    let digit : digit_value (get_or bytes i 0) + 48 ≡ get_or bytes i 0 = digit_value_digit (get_or bytes i 0) range in
    let more : digits_value 10 (take (i + 1) bytes) ≡ digits_value 10 (take i bytes) * 10 + digit_value (get_or bytes i 0) = digits_value_more 10 bytes i lt in
    let most : digits_value 10 (take (i + 1) bytes) ≤ digits_value 10 bytes = digits_value-take-le 10 bytes (i + 1) (omega arith) in
    let all : digits_value 10 bytes ≡ n = ap (digits_value 10) e ∙ (decimal_is_IsNumeral n fits).1 in
    omega arith

-- ---- digits in front of other bytes

-- so many digits in front are no more than those before a byte that is none
digits_before : (k : ℕ) (ds rest : List ℕ) → BeginsWithNoDigit rest → AllDigits 10 (take k (ds ++ rest)) → k ≤ length (ds ++ rest) → k ≤ length ds
digits_before zero ds rest none all within = omega arith
digits_before (suc k) [] [] none all within = absurd (omega arith)
digits_before (suc k) [] (x ∷ rest) none all within = absurd (none (digit_from_value x all.0))
digits_before (suc k) (d ∷ ds) rest none all within = let more = digits_before k ds rest none all.1 (omega arith) in omega arith

-- digits end in one place
one_front : (a x b y : List ℕ) → AllDigits 10 a → AllDigits 10 b → BeginsWithNoDigit x → BeginsWithNoDigit y → a ++ x ≡ b ++ y → (a ≡ b) × (x ≡ y)
one_front [] x [] y p q r s e = (refl, e)
one_front [] x (d ∷ b) y p q r s e = absurd ((subst BeginsWithNoDigit e r) (digit_from_value d q.0))
one_front (d ∷ a) x [] y p q r s e = absurd ((subst BeginsWithNoDigit (sym e) s) (digit_from_value d p.0))
one_front (c ∷ a) x (d ∷ b) y p q r s e =
    let head : c ≡ d = cc in
    let tail : a ++ x ≡ b ++ y = cc in
    let rest = one_front a x b y p.1 q.1 r s tail in
    (ap (λ (h : ℕ). h ∷ a) head ∙ ap (λ (t : List ℕ). d ∷ t) rest.0, rest.1)

decimal_digits : (n : ℕ) → n < 2 ^ 64 → AllDigits 10 (decimal n)
decimal_digits n fits = (decimal_is_IsNumeral n fits).0.1

-- one number stands in front
pub one_number : (bytes : List ℕ) (m n : ℕ) (x y : List ℕ) → m < 2 ^ 64 → n < 2 ^ 64 → BeginsWithNoDigit x → BeginsWithNoDigit y →
    bytes ≡ decimal m ++ x → bytes ≡ decimal n ++ y → (m ≡ n) × (x ≡ y)
one_number bytes m n x y p q r s e f =
    let parts = one_front (decimal m) x (decimal n) y (decimal_digits m p) (decimal_digits n q) r s (sym e ∙ f) in
    (decimal_injective m n p q parts.0, parts.1)

-- one number is the whole
pub whole_number : (bytes : List ℕ) (m n : ℕ) (x : List ℕ) → m < 2 ^ 64 → n < 2 ^ 64 → BeginsWithNoDigit x → bytes ≡ decimal m ++ x → bytes ≡ decimal n → (m ≡ n) × (x ≡ [])
whole_number bytes m n x p q r e f = one_number bytes m n x [] p q r tt e (f ∙ sym (append-nil (decimal n)))

-- the digits in front are the number's
pub digits_are : (bytes : List ℕ) (k n : ℕ) (rest : List ℕ) → n < 2 ^ 64 → BeginsWithNoDigit rest → AllDigits 10 (take k bytes) → BeginsWithNoDigit (drop k bytes) →
    bytes ≡ decimal n ++ rest → take k bytes ≡ decimal n
digits_are bytes k n rest fits none all ended e =
    (one_front (take k bytes) (drop k bytes) (decimal n) rest all (decimal_digits n fits) ended none (take-append-drop k bytes ∙ e)).0

-- the first of them
pub front_digit : (bytes : List ℕ) (k : ℕ) → 0 < k → get_or (take k bytes) 0 0 ≡ get_or bytes 0 0
front_digit bytes zero some = absurd (omega arith)
front_digit [] (suc k) some = refl
front_digit (x ∷ xs) (suc k) some = refl

-- a byte that is no digit, and the bytes behind it
pub ends_at : (bytes : List ℕ) (i : ℕ) → i < length bytes → ¬ IsInRange 48 57 (get_or bytes i 0) → BeginsWithNoDigit (drop i bytes)
ends_at bytes i lt none = subst BeginsWithNoDigit (sym (drop_more bytes i 0 lt)) none

pub ends_behind : (bytes : List ℕ) (i : ℕ) → length bytes ≤ i → BeginsWithNoDigit (drop i bytes)
ends_behind bytes i past = subst BeginsWithNoDigit (sym (drop_all i bytes past)) tt

-- the digits so far and the next one stand for no more than the number in front
pub number_above : (bytes : List ℕ) (n : ℕ) (rest : List ℕ) (i value : ℕ) → n < 2 ^ 64 → BeginsWithNoDigit rest → bytes ≡ decimal n ++ rest → i < length bytes →
    AllDigits 10 (take i bytes) → value ≡ digits_value 10 (take i bytes) → 48 ≤ get_or bytes i 0 → get_or bytes i 0 ≤ 57 →
    value * 10 + (get_or bytes i 0 - 48) ≤ n
number_above bytes n rest i value fits none e lt all is low high =
    let grown = digits_grow bytes i value lt all is low high in
    let within : i + 1 ≤ length (decimal n) =
    digits_before (i + 1) (decimal n) rest none (subst (λ (l : List ℕ). AllDigits 10 (take (i + 1) l)) e grown.0) (omega (arith, ap length e)) in
    let front : take i bytes ≡ take i (decimal n) = ap (take i) e ∙ take-append-le i (decimal n) rest (omega arith) in
    let digit : get_or bytes i 0 ≡ get_or (decimal n) i 0 = ap (λ (l : List ℕ). get_or l i 0) e ∙ get_or_append_left (decimal n) rest 0 i (omega arith) in
    let most = front_below (decimal n) n i value fits refl (omega arith) (is ∙ ap (digits_value 10) front) in
    omega (arith, digit, most)

digits_lack : (c : ℕ) (xs : List ℕ) → c < 48 → AllDigits 10 xs → Lacks c xs
digits_lack c [] lt all = tt
digits_lack c (x ∷ xs) lt all =
    let range : IsInRange 48 57 x = digit_from_value x all.0 in
    ((λ (e : x ≡ c). omega arith), digits_lack c xs lt all.1)

-- a spelling has no byte below the digits
pub decimal_lacks : (c n : ℕ) → c < 48 → n < 2 ^ 64 → Lacks c (decimal n)
decimal_lacks c n lt fits = digits_lack c (decimal n) lt (decimal_is_IsNumeral n fits).0.1

-- what stands before the first space is the number that stands before a space
pub same_word : (bytes word more : List ℕ) (n : ℕ) (rest : List ℕ) → n < 2 ^ 64 → bytes ≡ word ++ 32 ∷ more → Lacks 32 word → bytes ≡ decimal n ++ 32 ∷ rest → (word ≡ decimal n) × (more ≡ rest)
same_word bytes word more n rest fits e lacks f =
    one_parting 32 word (decimal n) more rest lacks (decimal_lacks 32 n (omega arith) fits) (sym e ∙ f)

-- after one text and before a space stands one number
pub same_field : (text bytes : List ℕ) (m n : ℕ) (x y : List ℕ) → m < 2 ^ 64 → n < 2 ^ 64 →
    bytes ≡ text ++ (decimal m ++ 32 ∷ x) → bytes ≡ text ++ (decimal n ++ 32 ∷ y) → (m ≡ n) × (x ≡ y)
same_field text bytes m n x y p q e f =
    let parts = one_parting 32 (decimal m) (decimal n) x y (decimal_lacks 32 m (omega arith) p) (decimal_lacks 32 n (omega arith) q)
    (append_cancel_left text (decimal m ++ 32 ∷ x) (decimal n ++ 32 ∷ y) (sym e ∙ f)) in
    (decimal_injective m n p q parts.0, parts.1)

-- between a text and a byte that is no digit stands one number
pub same_between : (text bytes : List ℕ) (end m n : ℕ) (x y : List ℕ) → BeginsWithNoDigit (end ∷ []) → m < 2 ^ 64 → n < 2 ^ 64 →
    bytes ≡ text ++ (decimal m ++ end ∷ x) → bytes ≡ text ++ (decimal n ++ end ∷ y) → (m ≡ n) × (x ≡ y)
same_between text bytes end m n x y none p q e f =
    let same = append_cancel_left text (decimal m ++ end ∷ x) (decimal n ++ end ∷ y) (sym e ∙ f) in
    let parts = one_number (decimal m ++ end ∷ x) m n (end ∷ x) (end ∷ y) p q none none refl same in
    (parts.0, ap (drop 1) parts.1)
