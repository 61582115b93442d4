use Rattle.std.proofs.Common.{◌≡◌, ℕ, ◌+◌, List, ◌∷◌, ◌++◌, sym, ap, ◌∙◌, arith, take, drop, subst}
use Rattle.std.proofs.lemmas.Bool.{eq-eqb, eqb-true}
use Rattle.kp_words.specs.Words.{Lacks}
use Rattle.kp_words.proofs.Splitting.{lacks_front, lacks_all, parted_at}
use Rattle.kp_words.proofs.split_first_at.Goals as goal

pub returns-in-Some-clause-found : goal.returns-in-Some-clause-found
returns-in-Some-clause-found c =
    let i : ℕ = c.in-Some.i in
    let separator : ℕ = c.args.separator in
    let bytes : List ℕ = c.args.bytes.now in
    let met = c.in-Some.ensures in
    let front : c.split_at.result.0.now ≡ take i bytes = c.split_at.ensures.front in
    let rest : c.split_at-in-Some.result.1.now ≡ drop (i + 1) bytes = c.split_at-in-Some.ensures.back in
    let parted = parted_at separator i bytes met.0.high (eqb-true _ separator met.1) in (
      parted ∙ ap (λ (l : List ℕ). l ++ separator ∷ drop (i + 1) bytes) (sym front) ∙ ap (λ (l : List ℕ). c.split_at.result.0.now ++ separator ∷ l) (sym rest),
      subst (Lacks separator) (sym front) (lacks_front separator i bytes (λ k lt same. met.0.before k (omega arith) lt (eq-eqb _ separator same))),
    )

pub returns-in-None-clause-none : goal.returns-in-None-clause-none
returns-in-None-clause-none c =
    lacks_all c.args.separator c.args.bytes.now (λ k lt same. c.in-None.ensures k (omega arith) lt (eq-eqb _ c.args.separator same))
