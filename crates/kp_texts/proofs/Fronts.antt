-- Laws of the texts from their front: bytes begin with one value's part at most.
use Rattle.std.proofs.Common.{◌≡◌, ℕ, ◌<◌, ◌≤◌, ◌^◌, List, [], ◌∷◌, ◌++◌, Option, Some, None, codes, drop, get_or, length, map, refl, sym, ap, ◌∙◌, arith, append_assoc}
use Rattle.std.specs.Prelude.{IfSome}
use Rattle.std.specs.Fmt.{decimal}
use Rattle.std.specs.Int.{IsInRange}
use Rattle.std.proofs.lemmas.List.{get_or_append_left}
use Rattle.kp_model.specs.Controller.{greatest_epoch}
use Rattle.kp_words.specs.Words.{BeginsWithNoDigit}
use Rattle.kp_words.proofs.Numbers.{each_digit, same_between, some_digit}
use Rattle.kp_texts.specs.declared.states.Numbers.{Numbers}
use Rattle.kp_texts.specs.Texts.{StateText, IsStateInRange, listed, start_text, state_lines}
use Rattle.kp_texts.specs.Reading.{kept_front, state_front, AreNumbers}

-- a space and a line feed are no digits
pub space : BeginsWithNoDigit (32 ∷ [])
space r = omega (arith, r)

pub feed : BeginsWithNoDigit (10 ∷ [])
feed r = omega (arith, r)

-- what begins with an n is no number
pub no_number : (n : ℕ) (x y : List ℕ) → n < 2 ^ 64 → 110 ∷ y ≡ decimal n ++ x → ⊥
no_number n x y fits e =
    let some : 0 < length (decimal n) = some_digit (decimal n) n fits refl in
    let digit : IsInRange 48 57 (get_or (decimal n) 0 0) = each_digit (decimal n) n 0 fits refl some in
    let first : 110 ≡ get_or (decimal n) 0 0 = ap (λ (l : List ℕ). get_or l 0 0) e ∙ get_or_append_left (decimal n) x 0 0 some in
    omega (arith, digit, first)

-- ---- a state's numbers

abbrev pub end_front : Numbers → List ℕ → List ℕ
end_front numbers rest = codes "end " ++ (decimal numbers.end ++ 10 ∷ (codes "epochs " ++ rest))

abbrev pub life_front : Numbers → List ℕ → List ℕ
life_front numbers rest = codes "life " ++ (decimal numbers.life ++ 32 ∷ kept_front numbers.kept (end_front numbers rest))

pub after_checkpoint : (lines x : List ℕ) (n : ℕ) (numbers : Numbers) (rest : List ℕ) → n ≤ 2 ^ 62 → AreNumbers numbers →
    lines ≡ codes "kpart node 1\ncheckpoint " ++ (decimal n ++ 32 ∷ x) → lines ≡ state_front numbers rest → (n ≡ numbers.checkpoint) × (x ≡ life_front numbers rest)
after_checkpoint lines x n numbers rest fits range e f =
    same_between (codes "kpart node 1\ncheckpoint ") lines 32 n numbers.checkpoint x (life_front numbers rest) space (omega (arith, fits)) (omega (arith, range.checkpoint)) e f

pub after_life : (bytes x : List ℕ) (n : ℕ) (numbers : Numbers) (rest : List ℕ) → n < 2 ^ 64 → AreNumbers numbers →
    bytes ≡ codes "life " ++ (decimal n ++ 32 ∷ x) → bytes ≡ life_front numbers rest → (n ≡ numbers.life) × (x ≡ kept_front numbers.kept (end_front numbers rest))
after_life bytes x n numbers rest fits range e f =
    same_between (codes "life ") bytes 32 n numbers.life x (kept_front numbers.kept (end_front numbers rest)) space fits range.life e f

pub after_kept : (a b : Option ℕ) (bytes x y : List ℕ) → IfSome a (λ epoch. epoch ≤ greatest_epoch) → IfSome b (λ epoch. epoch ≤ greatest_epoch) →
    bytes ≡ kept_front a x → bytes ≡ kept_front b y → (a ≡ b) × (x ≡ y)
after_kept None None bytes x y p q e f = (refl, ap (drop 11) (sym e ∙ f))
after_kept None (Some n) bytes x y p q e f = absurd (no_number n (10 ∷ y) (codes "one\n" ++ x) (omega (arith, q)) (ap (drop 6) (sym e ∙ f)))
after_kept (Some m) None bytes x y p q e f = absurd (no_number m (10 ∷ x) (codes "one\n" ++ y) (omega (arith, p)) (ap (drop 6) (sym f ∙ e)))
after_kept (Some m) (Some n) bytes x y p q e f =
    let same = same_between (codes "epoch ") bytes 10 m n x y feed (omega (arith, p)) (omega (arith, q)) e f in
    (ap (λ (k : ℕ). Some k) same.0, same.1)

pub after_end : (bytes x : List ℕ) (n : ℕ) (numbers : Numbers) (rest : List ℕ) → n ≤ 2 ^ 62 → AreNumbers numbers →
    bytes ≡ codes "end " ++ (decimal n ++ 10 ∷ x) → bytes ≡ end_front numbers rest → (n ≡ numbers.end) × (x ≡ codes "epochs " ++ rest)
after_end bytes x n numbers rest fits range e f =
    same_between (codes "end ") bytes 10 n numbers.end x (codes "epochs " ++ rest) feed (omega (arith, fits)) (omega (arith, range.end)) e f

-- the numbers in front of a state's lines
pub same_numbers : (a b : Numbers) (lines x y : List ℕ) → AreNumbers a → AreNumbers b → lines ≡ state_front a x → lines ≡ state_front b y → (a ≡ b) × (x ≡ y)
same_numbers a b lines x y p q e f =
    let checkpoint = after_checkpoint lines (life_front a x) a.checkpoint b y p.checkpoint q e f in
    let life = after_life (life_front a x) (kept_front a.kept (end_front a x)) a.life b y p.life q refl checkpoint.1 in
    let kept = after_kept a.kept b.kept (kept_front a.kept (end_front a x)) (end_front a x) (end_front b y) p.kept q.kept refl life.1 in
    let end = after_end (end_front a x) (codes "epochs " ++ x) a.end b y p.end q refl kept.1 in
    (λ i. record { checkpoint = checkpoint.0 i; life = life.0 i; kept = kept.0 i; end = end.0 i }, ap (drop 7) end.1)

abbrev pub numbers_in : StateText → Numbers
numbers_in s = record { checkpoint = s.checkpoint; life = s.life; kept = s.kept; end = s.end }

pub numbers_range : (s : StateText) → IsStateInRange s → AreNumbers (numbers_in s)
numbers_range s range = record { checkpoint = range.checkpoint; life = range.life; kept = range.kept; end = range.end }

pub state_is : (s : StateText) → state_front (numbers_in s) (listed (map start_text s.starts) ++ 10 ∷ []) ≡ state_lines s
state_is s = simp append_assoc
