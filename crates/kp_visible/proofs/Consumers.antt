-- What a read-committed consumer can rely on.
use Rattle.std.proofs.Common.{◌≡◌, ℕ, ◌<◌, ◌≤◌, ◌+◌, Bool, true, false, leb, ◌||◌, ◌⊎◌, List, [], ◌∷◌, ◌++◌, Option, Some, None, refl, sym, ap, ◌∙◌, subst, arith, inl, inr}
use Rattle.std.specs.Prelude.{Contains, not}
use Rattle.std.specs.List.{AllByRecursion, AllPairs, enumerate_from, filter, find, slice_get}
use Rattle.std.specs.Option.{IsSomeAnd, option_and_then, option_map_or, option_or}
use Rattle.std.proofs.lemmas.Bool.{and_parts, le-leb}
use Rattle.std.proofs.lemmas.List.Concat.{flat_map-append}
use Rattle.std.proofs.lemmas.List.Elements.{filter-append, Contains-append_left, Contains-append_right}
use Rattle.kp_record.specs.Record.{Record}
use Rattle.kp_batch.specs.Batch.{Content, Plain, Produced, Marker, records_of, is_marker, is_transactional}
use Rattle.kp_model.specs.Log.{Batch, IsLog, below, from_offset, next_offset}
use Rattle.kp_model.specs.Producers.{content_of, is_of, producer_of}
use Rattle.kp_model.specs.Transactions.{is_abort, is_marker_of, stable}
use Rattle.kp_model.specs.Visible.{is_commit, is_visible, records_in, visible}
use Rattle.kp_visible.specs.Laws.{IsAbortedIn, IsCommittedIn, Spans, ending_of}
use Rattle.kp_visible.proofs.Lists.{splits, all_flat_map, filter_split}
use Rattle.kp_visible.proofs.Places.{IsApart, apart_filter, each_apart, log_apart}
use Rattle.kp_visible.proofs.Rising.{offsets_within, record_at, records_rise}
use Rattle.kp_visible.proofs.Showing.{commit_or_abort, visible_at}
use Rattle.kp_types.proofs.Elements.{all_weaker, all_filter, find-append, all_find}

-- ---- aborted records are hidden

nothing : (xs : List Batch) → AllByRecursion (λ x. Unit {0}) xs
nothing [] = tt
nothing (x ∷ xs) = (tt, nothing xs)

pub found_marks : (xs : List Batch) (m : Batch) (producer : ℕ) → find (is_marker_of producer) xs ≡ Some m → is_marker (content_of m) ≡ true
found_marks xs m producer e = (and_parts (is_marker (content_of m)) (is_of producer m) (all_find (is_marker_of producer) (λ x. Unit {0}) xs m (nothing xs) e).1).0

-- the next marker behind the batch, for a producer of this content
abbrev pub ending_at : List Batch → Batch → Content → Option Batch
ending_at log b content = option_and_then (λ p. find (is_marker_of p.0) (from_offset (next_offset b) log)) (producer_of content)

-- a batch whose next marker is an abort isn't visible, also where the log goes on
aborted_is : (log more : List Batch) (b : Batch) → is_transactional (content_of b) ≡ true → IsSomeAnd (ending_of log b) (λ m. is_abort (content_of m) ≡ true) → is_visible (log ++ more) b ≡ false
aborted_is log more b transactional aborted = by_content (content_of b) refl
  where
    by_next : (producer : ℕ) (o : Option Batch) → find (is_marker_of producer) (from_offset (next_offset b) log) ≡ o → IsSomeAnd o (λ m. is_abort (content_of m) ≡ true)
        → option_map_or (λ m. is_commit (content_of m)) (find (is_marker_of producer) (from_offset (next_offset b) (log ++ more))) false ≡ false
    by_next producer None e none = elim none [ ]
    by_next producer (Some m) e aborts =
        let test : Batch → Bool = λ x. leb (next_offset b) x.base in
        let marks = found_marks (from_offset (next_offset b) log) m producer e in
        let next : find (is_marker_of producer) (from_offset (next_offset b) (log ++ more)) ≡ Some m =
        ap (find (is_marker_of producer)) (filter-append test log more) ∙ find-append (is_marker_of producer) (from_offset (next_offset b) log) (from_offset (next_offset b) more)
        ∙ ap (λ (o : Option Batch). option_or o (find (is_marker_of producer) (from_offset (next_offset b) more))) e in
        ap (λ (o : Option Batch). option_map_or (λ m. is_commit (content_of m)) o false) next ∙ commit_or_abort (content_of m) marks ∙ ap not aborts

    by_content : (content : Content) → content_of b ≡ content → is_visible (log ++ more) b ≡ false
    by_content (Plain records) is = let none : false ≡ true = rw is at transactional in absurd cc
    by_content (Produced producer epoch sequence false records) is = let none : false ≡ true = rw is at transactional in absurd cc
    by_content (Produced producer epoch sequence true records) is =
        ap (visible_at (log ++ more) b) is ∙ by_next producer (find (is_marker_of producer) (from_offset (next_offset b) log)) refl (subst (λ (c : Content). IsSomeAnd (ending_at log b c) (λ m. is_abort (content_of m) ≡ true)) is aborted)
    by_content (Marker producer epoch coordinator commit) is = let none : false ≡ true = rw is at transactional in absurd cc

-- ---- where the records of other batches lie

pub outside : (b x : Batch) → (next_offset x ≤ b.base) ⊎ (next_offset b ≤ x.base) → AllByRecursion (λ r. ¬ Spans b r.0) (enumerate_from x.base (records_of x.body))
outside b x apart =
    all_weaker (λ r. (x.base ≤ r.0) × (r.0 < next_offset x)) (λ r. ¬ Spans b r.0) (λ r h s. elim apart [
      | inl front ↦ let upto = h.1 in let from = s.0 in omega (arith, front, upto, from)
      | inr back ↦ let from = h.0 in let upto = s.1 in omega (arith, back, upto, from)
    ]) (enumerate_from x.base (records_of x.body)) (offsets_within x.base (records_of x.body))

pub aborted_hidden : (log more : List Batch) (b : Batch) → IsLog (log ++ more) → IsAbortedIn log b
    → (high_watermark : ℕ) → AllByRecursion (λ r. ¬ Spans b r.0) (visible (log ++ more) high_watermark)
unfolding visible
aborted_hidden log more b lawful h high_watermark =
    let whole = log ++ more in
    let known = below (stable whole high_watermark) whole in
    let hidden = aborted_is log more b h.transactional h.aborted in
    let apart = each_apart whole b (log_apart whole lawful) (splits whole b (Contains-append_left log more b h.stands)) in
    let below_apart = all_weaker _ (IsApart b) (λ x p. p.0) known (all_filter (λ x. leb (next_offset x) (stable whole high_watermark)) (IsApart b) whole apart) in
    all_flat_map (λ x. enumerate_from x.base (records_of x.body)) (λ x. IsApart b x × (is_visible whole x ≡ true)) (λ r. ¬ Spans b r.0)
    (λ x p. elim p.0 [
      | inl same ↦ let shown : is_visible whole b ≡ true = subst (λ (y : Batch). is_visible whole y ≡ true) same p.1 in let bad : true ≡ false = sym shown ∙ hidden in absurd cc
      | inr other ↦ outside b x other
    ]) (filter (is_visible whole) known) (all_filter (is_visible whole) (IsApart b) known below_apart)

-- ---- committed records are visible

committed_is : (log : List Batch) (b : Batch) → IsCommittedIn log b → is_visible log b ≡ true
committed_is log b h = rw (h.data_batch) (elim h.committed [
  | inl plain ↦ rw plain refl
  | inr commits ↦ rw (by_producer (producer_of (content_of b)) commits) (or_true (not (is_transactional (content_of b))))
])
  where
    by_found : (o : Option Batch) → IsSomeAnd o (λ m. is_commit (content_of m) ≡ true) → option_map_or (λ m. is_commit (content_of m)) o false ≡ true
    by_found None none = elim none [ ]
    by_found (Some m) commits = commits

    by_producer : (o : Option (ℕ × ℕ)) → IsSomeAnd (option_and_then (λ p. find (is_marker_of p.0) (from_offset (next_offset b) log)) o) (λ m. is_commit (content_of m) ≡ true)
        → option_map_or (λ p. option_map_or (λ m. is_commit (content_of m)) (find (is_marker_of p.0) (from_offset (next_offset b) log)) false) o false ≡ true
    by_producer None none = elim none [ ]
    by_producer (Some p) commits = by_found (find (is_marker_of p.0) (from_offset (next_offset b) log)) commits

    or_true : (a : Bool) → (a || true) ≡ true
    or_true true = refl
    or_true false = refl

pub committed_visible : (log : List Batch) (high_watermark : ℕ) (b : Batch) → IsCommittedIn log b → next_offset b ≤ stable log high_watermark
    → (place : ℕ) (r : Record) → slice_get (records_of b.body) place ≡ Some r → Contains (visible log high_watermark) (b.base + place, r)
unfolding visible
committed_visible log high_watermark b h within place r e =
    let s = splits log b h.stands in
    let test : Batch → Bool = λ x. leb (next_offset x) (stable log high_watermark) in
    let placed : Batch → List (ℕ × Record) = λ x. enumerate_from x.base (records_of x.body) in
    let front = filter (is_visible log) (filter test s.front) in
    let back = filter (is_visible log) (filter test s.back) in
    let parts : filter (is_visible log) (below (stable log high_watermark) log) ≡ front ++ b ∷ back =
    ap (λ (l : List Batch). filter (is_visible log) (filter test l)) s.is
    ∙ ap (filter (is_visible log)) (filter_split test s.front s.back b (le-leb (next_offset b) (stable log high_watermark) within))
    ∙ filter_split (is_visible log) (filter test s.front) (filter test s.back) b (committed_is log b h) in
    let joined : records_in (filter (is_visible log) (below (stable log high_watermark) log)) ≡ records_in front ++ (placed b ++ records_in back) =
    ap records_in parts ∙ flat_map-append placed front (b ∷ back) in
    let stands = Contains-append_right (records_in front) (placed b ++ records_in back) (b.base + place, r)
    (Contains-append_left (placed b) (records_in back) (b.base + place, r) (record_at b.base place (records_of b.body) r e)) in
    subst (λ (l : List (ℕ × Record)). Contains l (b.base + place, r)) (sym joined) stands

pub visible_rises : (log : List Batch) (high_watermark : ℕ) → IsLog log → AllPairs (λ one later. one.0 < later.0) (visible log high_watermark)
unfolding visible
visible_rises log high_watermark lawful =
    records_rise (filter (is_visible log) (below (stable log high_watermark) log))
    (apart_filter (is_visible log) 0 (below (stable log high_watermark) log)
    (apart_filter (λ x. leb (next_offset x) (stable log high_watermark)) 0 log (log_apart log lawful)))
