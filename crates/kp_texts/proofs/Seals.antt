-- Laws of the last line of a text.
use Rattle.std.proofs.Common.{◌≡◌, ℕ, ◌+◌, ◌-◌, List, [], ◌∷◌, codes, length, length-append, take, drop, refl, sym, ap, ◌∙◌, arith}
use Rattle.std.proofs.Math.Seq.{take-append_seam, drop-append_seam}
use Rattle.std.specs.Int.{w32, to_be_bytes}
use Rattle.kp_crc.specs.Crc.{crc}
use Rattle.kp_words.specs.Words.{hex_text}
use Rattle.kp_texts.specs.Texts.{line, sealed}

-- the line of this sum
abbrev pub seal : ℕ → List ℕ
seal sum = line (codes "crc" ∷ hex_text (to_be_bytes w32 sum) ∷ [])

seal_length : (sum : ℕ) → length (seal sum) ≡ 13
seal_length sum = refl

pub sealed_length : (lines : List ℕ) → length (sealed lines) ≡ length lines + 13
unfolding sealed
sealed_length lines = length-append lines (seal (crc lines)) ∙ ap (λ (n : ℕ). length lines + n) (seal_length (crc lines))

-- what stands before the last thirteen bytes of a text, and what they are
pub parts_of : (text lines : List ℕ) → text ≡ sealed lines → (take (length text - 13) text ≡ lines) × (drop (length text - 13) text ≡ seal (crc lines))
unfolding sealed
parts_of text lines e =
    let size : length text - 13 ≡ length lines = omega (arith, ap length e, sealed_length lines) in (
      ap (λ (n : ℕ). take n text) size ∙ ap (take (length lines)) e ∙ take-append_seam lines (seal (crc lines)),
      ap (λ (n : ℕ). drop n text) size ∙ ap (drop (length lines)) e ∙ drop-append_seam lines (seal (crc lines)),
    )

-- a text has one body
pub same_lines : (a b : List ℕ) → sealed a ≡ sealed b → a ≡ b
same_lines a b e = sym (parts_of (sealed a) a refl).0 ∙ (parts_of (sealed a) b e).0
