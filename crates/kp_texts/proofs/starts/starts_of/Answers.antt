use Rattle.std.proofs.Common.{◌≡◌, ◌≢◌, true, ◌&&◌, codes, map, sym, ap, ◌∙◌, List}
use Rattle.std.proofs.lemmas.Bool.{and_parts, false≢true}
use Rattle.std.proofs.lemmas.Bool.Decides.{Decides-eqb}
use Rattle.std.proofs.lemmas.Slice.Eq.{slice_eq-Decides}
use Rattle.kp_words.specs.Words.{pieces}
use Rattle.kp_texts.specs.declared.texts.EpochStart.{EpochStart}
use Rattle.kp_texts.specs.Texts.{begin_at_0, rise, start_text, IsStart}
use Rattle.kp_texts.proofs.Pieces.{listed_back, not_listed}
use Rattle.kp_texts.proofs.EpochStarts.{in_order, same_starts, start_lacks}
use Rattle.kp_texts.proofs.starts.starts_of.Goals as goal

pub returns-in_default-clause-none : goal.returns-in_default-clause-none
returns-in_default-clause-none c = λ starts range e.
    let word = c.args.word.now in
    let other : word ≢ codes "none" = λ same. false≢true
    (sym c.if-eq.false ∙ (slice_eq-Decides Decides-eqb word c.as_slice.result.now c.eq.result c.eq.ensures).1 (same ∙ sym c.as_slice.ensures)) in
    let none = rw (c.in_default.is) at c.in_ok-starts.ensures.none in
    not_listed start_text IsStart word start_lacks other starts range.each (none starts range.each) e

pub returns-else-are_in_order-clause-none : goal.returns-else-are_in_order-clause-none
returns-else-are_in_order-clause-none c = λ starts range e.
    let word = c.args.word.now in
    let other : word ≢ codes "none" = λ same. false≢true
    (sym c.if-eq.false ∙ (slice_eq-Decides Decides-eqb word c.as_slice.result.now c.eq.result c.eq.ensures).1 (same ∙ sym c.as_slice.ensures)) in
    let found = rw (c.in-Some.is) at c.in_ok-starts.ensures.found in
    let differ : (pieces word) ≢ map start_text starts = λ told.
    let same : c.in-Some.starts.items ≡ starts = same_starts c.in-Some.starts.items starts found.1 range.each (sym found.0 ∙ told) in
    false≢true (sym c.if-are_in_order.false ∙ c.are_in_order.ensures
    ∙ ap (λ (ss : List EpochStart). begin_at_0 ss && rise ss) (c.deref.ensures.value ∙ same) ∙ in_order starts range) in
    not_listed start_text IsStart word start_lacks other starts range.each differ e

pub returns-then-are_in_order-clause-found : goal.returns-then-are_in_order-clause-found
returns-then-are_in_order-clause-found c =
    let found = rw (c.in-Some.is) at c.in_ok-starts.ensures.found in
    let items = c.in-Some.starts.items in
    let order : (begin_at_0 items && rise items) ≡ true =
    ap (λ (ss : List EpochStart). begin_at_0 ss && rise ss) (sym c.deref.ensures.value) ∙ sym c.are_in_order.ensures ∙ c.if-are_in_order.true in
    let parts = and_parts (begin_at_0 items) (rise items) order in
    (listed_back c.args.word.now (map start_text items) found.0, record { each = found.1; first = parts.0; rising = parts.1 })
