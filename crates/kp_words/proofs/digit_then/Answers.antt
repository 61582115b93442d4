use Rattle.std.proofs.Common.{◌≡◌, ◌+◌, ◌∷◌, ◌++◌, ◌∙◌, List, ℕ, drop, get_or, sym, ap, arith}
use Rattle.std.proofs.lemmas.Fmt.{decimal_digit}
use Rattle.std.proofs.lemmas.List.{drop_more}
use Rattle.kp_words.proofs.digit_then.Goals as goal

pub returns : goal.returns
returns c =
    let bytes = c.args.bytes.now in
    let first = drop_more bytes 0 0 (omega (arith, c.if-bytes-lt2.false)) in
    let second = drop_more bytes 1 0 (omega (arith, c.if-bytes-lt2.false)) in
    let digit : get_or bytes 0 0 ≡ 48 + c.from.result = omega (arith, c.from.ensures, c.if-bytes-lt48.false) in
    let space : get_or bytes 1 0 ≡ 32 = c.if-bytes-ne32.false in
    let rest : drop 2 bytes ≡ c.split_at.result.1.now = sym c.split_at.ensures.back in
    first
    ∙ ap (λ (l : List ℕ). get_or bytes 0 0 ∷ l) second
    ∙ ap (λ (n : ℕ). n ∷ get_or bytes 1 0 ∷ drop 2 bytes) digit
    ∙ ap (λ (n : ℕ). (48 + c.from.result) ∷ n ∷ drop 2 bytes) space
    ∙ ap (λ (l : List ℕ). (48 + c.from.result) ∷ 32 ∷ l) rest
    ∙ ap (λ (l : List ℕ). l ++ 32 ∷ c.split_at.result.1.now) (sym (decimal_digit c.from.result (omega (arith, c.from.ensures, c.if-bytes-lt48.false, c.if-bytes-gt57.false))))
