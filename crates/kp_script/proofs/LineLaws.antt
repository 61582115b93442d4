-- Laws of the lines: they are defined from the end of the bytes, and read from their front.
use Rattle.std.proofs.Common.{◌≡◌, ◌≢◌, ℕ, ◌<◌, false, List, [], ◌∷◌, ◌++◌, None, Some, refl, ap, ◌∙◌, arith, length, eqb}
use Rattle.std.proofs.lemmas.Bool.{ne_eqb}
use Rattle.std.specs.List.{onto_first}
use Rattle.kp_script.specs.Lines.{lines, onto_sent, sent_lines}
use Rattle.kp_words.specs.Words.{Lacks}

-- a byte that does not end a line
lines-cons : (x : ℕ) (xs : List ℕ) → x ≢ 10 → lines (x ∷ xs) ≡ onto_first x (lines xs)
lines-cons x xs ne = let other : eqb x 10 ≡ false = ne_eqb x 10 ne in rw other refl

-- the first line is what stands before the first line feed
pub lines_first : (line rest : List ℕ) → Lacks 10 line → lines (line ++ 10 ∷ rest) ≡ line ∷ lines rest
lines_first [] rest lacks = refl
lines_first (x ∷ xs) rest lacks =
    lines-cons x (xs ++ 10 ∷ rest) lacks.0 ∙ ap (onto_first x) (lines_first xs rest lacks.1)

-- bytes without a line feed are one line
pub lines_last : (line : List ℕ) → Lacks 10 line → 0 < length line → lines line ≡ line ∷ []
lines_last [] lacks some = absurd (omega arith)
lines_last (x ∷ []) lacks some = lines-cons x [] lacks.0
lines_last (x ∷ y ∷ ys) lacks some =
    lines-cons x (y ∷ ys) lacks.0 ∙ ap (onto_first x) (lines_last (y ∷ ys) lacks.1 (omega arith))

sent-cons : (x : ℕ) (xs : List ℕ) → x ≢ 10 → sent_lines (x ∷ xs) ≡ onto_sent x (sent_lines xs)
sent-cons x xs ne = let other : eqb x 10 ≡ false = ne_eqb x 10 ne in rw other refl

-- the same of lines that come one by one
pub sent_first : (line rest : List ℕ) → Lacks 10 line → sent_lines (line ++ 10 ∷ rest) ≡ Some line ∷ sent_lines rest
sent_first [] rest lacks = refl
sent_first (x ∷ xs) rest lacks =
    sent-cons x (xs ++ 10 ∷ rest) lacks.0 ∙ ap (onto_sent x) (sent_first xs rest lacks.1)

-- where bytes without a line feed are a last one that lacks it
pub sent_last : (line : List ℕ) → Lacks 10 line → 0 < length line → sent_lines line ≡ None ∷ []
sent_last [] lacks some = absurd (omega arith)
sent_last (x ∷ []) lacks some = sent-cons x [] lacks.0
sent_last (x ∷ y ∷ ys) lacks some =
    sent-cons x (y ∷ ys) lacks.0 ∙ ap (onto_sent x) (sent_last (y ∷ ys) lacks.1 (omega arith))
