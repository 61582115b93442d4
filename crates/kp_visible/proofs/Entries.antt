-- What the entries of the aborted transactions say.
use Rattle.std.proofs.Common.{◌≡◌, ℕ, true, false, List, Option, Some, None, refl, subst, inl, inr}
use Rattle.std.specs.Option.{option_map, option_and_then}
use Rattle.std.proofs.lemmas.Bool.{cases_Bool, eqb-true, eq-eqb, and_parts}
use Rattle.kp_batch.specs.Batch.{Content, Plain, Produced, Marker, is_marker}
use Rattle.kp_model.specs.Log.{Batch, below, next_offset}
use Rattle.kp_model.specs.Producers.{content_of, producer_of, is_of}
use Rattle.kp_model.specs.Transactions.{Aborted, aborted_by, is_abort, is_marker_of, open_of, stable}

-- ---- one entry

-- the batch is an abort marker of the entry's producer, and ends the transaction that was open in front of it
pub record IsEntry (log : List Batch) (x : Batch) (a : Aborted) : Type 0 where
  pub aborts : is_abort (content_of x) ≡ true
  pub own : is_of a.producer x ≡ true
  pub marker : a.marker ≡ x.base
  pub opened : open_of (below x.base log) a.producer ≡ Some a.first
  pub stable_is : a.stable ≡ stable log (next_offset x)

entry_at : (log : List Batch) (x : Batch) (a : Aborted) (p : ℕ × ℕ) (first : Option ℕ) → is_abort (content_of x) ≡ true → producer_of (content_of x) ≡ Some p → open_of (below x.base log) p.0 ≡ first
    → option_map (λ first. let y : Aborted = record { producer = p.0; first = first; marker = x.base; stable = stable log (next_offset x) } in y) first ≡ Some a → IsEntry log x a
entry_at log x a p None aborts own opened e = absurd cc
entry_at log x a p (Some first) aborts own opened e =
    let y : Aborted = record { producer = p.0; first = first; marker = x.base; stable = stable log (next_offset x) } in
    let found : Some y ≡ Some a = e in
    let same : y ≡ a = cc in
    let of : is_of p.0 x ≡ true = rw own (eq-eqb p.0 p.0 refl) in
    let entry : IsEntry log x y = record { aborts = aborts; own = of; marker = refl; opened = opened; stable_is = refl } in
    subst (IsEntry log x) same entry

pub entry_is : (log : List Batch) (x : Batch) (a : Aborted) → aborted_by log x ≡ Some a → IsEntry log x a
entry_is log x a e = elim (cases_Bool (is_abort (content_of x))) [
  | inl t ↦ by_producer t (producer_of (content_of x)) refl (rw t at e)
  | inr f ↦ let none : None ≡ Some a = rw f at e in absurd cc
]
  where
    by_producer : is_abort (content_of x) ≡ true → (o : Option (ℕ × ℕ)) → producer_of (content_of x) ≡ o
        → option_and_then (λ p. option_map (λ first. let y : Aborted = record { producer = p.0; first = first; marker = x.base; stable = stable log (next_offset x) } in y) (open_of (below x.base log) p.0)) o ≡ Some a
        → IsEntry log x a
    by_producer t None own is = absurd cc
    by_producer t (Some p) own is = entry_at log x a p (open_of (below x.base log) p.0) t own refl is

pub abort_marks : (content : Content) → is_abort content ≡ true → is_marker content ≡ true
abort_marks (Plain records) e = absurd cc
abort_marks (Produced producer epoch sequence transactional records) e = absurd cc
abort_marks (Marker producer epoch coordinator commit) e = refl

-- an entry of the producer's comes from a marker of the producer's
pub entry_marks : (log : List Batch) (x : Batch) (a : Aborted) (producer : ℕ) → IsEntry log x a → a.producer ≡ producer → is_marker_of producer x ≡ true
entry_marks log x a producer i same = rw (abort_marks (content_of x) i.aborts) (subst (λ (n : ℕ). is_of n x ≡ true) same i.own)

-- an abort marker of a producer with an open transaction has an entry
pub has_entry : (log : List Batch) (x : Batch) (producer first : ℕ) → is_marker_of producer x ≡ true → is_abort (content_of x) ≡ true → open_of (below x.base log) producer ≡ Some first
    → aborted_by log x ≡ Some (record { producer = producer; first = first; marker = x.base; stable = stable log (next_offset x) })
has_entry log x producer first marks aborts opened = rw aborts (by_producer (producer_of (content_of x)) refl)
  where
    own : is_of producer x ≡ true
    own = (and_parts (is_marker (content_of x)) (is_of producer x) marks).1

    by_producer : (o : Option (ℕ × ℕ)) → producer_of (content_of x) ≡ o
        → option_and_then (λ p. option_map (λ first. let y : Aborted = record { producer = p.0; first = first; marker = x.base; stable = stable log (next_offset x) } in y) (open_of (below x.base log) p.0)) o
        ≡ Some (record { producer = producer; first = first; marker = x.base; stable = stable log (next_offset x) })
    by_producer None e = let none : false ≡ true = rw e at own in absurd cc
    by_producer (Some p) e =
        let same : p.0 ≡ producer = eqb-true p.0 producer (rw e at own) in
        rw (same, opened) refl
