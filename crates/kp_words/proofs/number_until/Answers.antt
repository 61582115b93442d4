use Rattle.std.proofs.Common.{◌≡◌, ◌<◌, List, ℕ, ◌++◌, length, take, drop, get_or, sym, ap, ◌∙◌, subst, arith}
use Rattle.std.specs.Fmt.{decimal}
use Rattle.std.proofs.lemmas.List.{take-append-drop, length-take-le}
use Rattle.kp_words.specs.Words.{BeginsWithNoDigit}
use Rattle.kp_words.proofs.Numbers.{digits_are, some_digit, no_leading_zero, front_digit, spelled}
use Rattle.kp_words.proofs.number_until.Goals as goal
use Rattle.kp_words.proofs.number_until.Goals.{else-digits-gt1-via-then-digits-gt1+else-bytes-eq48, else-digits-gt1-via-else-digits-gt1}

pub returns-then-digits-eq0-clause-none : goal.returns-then-digits-eq0-clause-none
returns-then-digits-eq0-clause-none c = λ n rest fits none e.
    let bytes = c.args.bytes.now in
    let digits = c.args.digits in
    let size : length (take digits bytes) ≡ digits = length-take-le digits bytes c.requires.within in
    let is : take digits bytes ≡ decimal n = digits_are bytes digits n rest fits none c.requires.digits c.requires.rest e in
    let some : 0 < length (take digits bytes) = some_digit (take digits bytes) n fits is in
    omega (arith, c.if-digits-eq0.true)

pub returns-then-bytes-eq48-clause-none : goal.returns-then-bytes-eq48-clause-none
returns-then-bytes-eq48-clause-none c = λ n rest fits none e.
    let bytes = c.args.bytes.now in
    let digits = c.args.digits in
    let size : length (take digits bytes) ≡ digits = length-take-le digits bytes c.requires.within in
    let is : take digits bytes ≡ decimal n = digits_are bytes digits n rest fits none c.requires.digits c.requires.rest e in
    let first : get_or (take digits bytes) 0 0 ≡ get_or bytes 0 0 = front_digit bytes digits (omega (arith, c.if-digits-gt1.true)) in
    no_leading_zero (take digits bytes) n fits is (omega (arith, first, c.if-bytes-eq48.true)) (omega (arith, size, c.if-digits-gt1.true))

pub returns-clause-found : goal.returns-clause-found
returns-clause-found c =
    let bytes = c.args.bytes.now in
    let digits = c.args.digits in
    let size : length (take digits bytes) ≡ digits = length-take-le digits bytes c.requires.within in
    let rest = c.split_at.result.1.now in
    let behind : rest ≡ drop digits bytes = c.split_at.ensures.back in
    let is : take digits bytes ≡ decimal c.args.value =
    spelled (take digits bytes) c.args.value c.requires.digits (omega (arith, c.if-digits-eq0.false)) (λ zero.
    elim c.else-digits-gt1.branch [
      | else-digits-gt1-via-then-digits-gt1+else-bytes-eq48 w ↦
          let first : get_or (take digits bytes) 0 0 ≡ get_or bytes 0 0 = front_digit bytes digits (omega (arith, c.if-digits-eq0.false)) in
          absurd (omega (arith, first, zero))
      | else-digits-gt1-via-else-digits-gt1 w ↦ omega (arith, c.if-digits-eq0.false)
    ]) c.requires.value (omega arith) in (
      sym (take-append-drop digits bytes) ∙ ap (λ (l : List ℕ). l ++ drop digits bytes) is ∙ ap (λ (l : List ℕ). decimal c.args.value ++ l) (sym behind),
      subst BeginsWithNoDigit (sym behind) c.requires.rest,
      omega arith,
    )
