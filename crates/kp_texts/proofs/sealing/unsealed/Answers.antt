use Rattle.std.proofs.Common.{◌≡◌, ℕ, ◌-◌, List, ◌++◌, length, drop, sym, ap, ◌∙◌, arith}
use Rattle.std.proofs.lemmas.Bool.{false≢true}
use Rattle.std.proofs.lemmas.Bool.Decides.{Decides-eqb}
use Rattle.std.proofs.lemmas.List.{take-append-drop}
use Rattle.std.proofs.lemmas.Slice.Eq.{slice_eq-Decides}
use Rattle.kp_crc.specs.Crc.{crc}
use Rattle.kp_texts.specs.Texts.{sealed}
use Rattle.kp_texts.proofs.Seals.{seal, parts_of, sealed_length}
use Rattle.kp_texts.proofs.sealing.unsealed.Goals as goal

pub returns-then-eq-clause-found : goal.returns-then-eq-clause-found
unfolding sealed
returns-then-eq-clause-found c =
    let text = c.args.text.now in
    let lines = c.split_at.result.0.now in
    let back = c.split_at.result.1.now in
    let made : c.as_slice.result.now ≡ seal (crc lines) = c.as_slice.ensures ∙ c.seal_of.ensures ∙ ap seal c.crc32c.ensures in
    let same : back ≡ c.as_slice.result.now = (slice_eq-Decides Decides-eqb back c.as_slice.result.now c.eq.result c.eq.ensures).0 c.if-eq.true in
    sym (take-append-drop (length text - 13) text)
    ∙ ap (λ (l : List ℕ). l ++ drop (length text - 13) text) (sym c.split_at.ensures.front)
    ∙ ap (λ (l : List ℕ). lines ++ l) (sym c.split_at.ensures.back ∙ same ∙ made)

pub returns-else-eq-clause-none : goal.returns-else-eq-clause-none
returns-else-eq-clause-none c = λ lines e.
    let text = c.args.text.now in
    let front = c.split_at.result.0.now in
    let back = c.split_at.result.1.now in
    let parts = parts_of text lines e in
    let made : c.as_slice.result.now ≡ seal (crc front) = c.as_slice.ensures ∙ c.seal_of.ensures ∙ ap seal c.crc32c.ensures in
    let lead : front ≡ lines = c.split_at.ensures.front ∙ parts.0 in
    let same : back ≡ c.as_slice.result.now = c.split_at.ensures.back ∙ parts.1 ∙ ap (λ (l : List ℕ). seal (crc l)) (sym lead) ∙ sym made in
    false≢true (sym c.if-eq.false ∙ (slice_eq-Decides Decides-eqb back c.as_slice.result.now c.eq.result c.eq.ensures).1 same)

pub returns-then-text-lt-SEAL_BYTES-clause-none : goal.returns-then-text-lt-SEAL_BYTES-clause-none
returns-then-text-lt-SEAL_BYTES-clause-none c = λ lines e.
    omega (arith, c.if-text-lt-SEAL_BYTES.true, ap length e, sealed_length lines)
