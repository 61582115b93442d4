-- What a client is left with of a piece of a log below the last stable offset is what is visible there.
use Rattle.std.proofs.Common.{◌≡◌, ℕ, ◌<◌, ◌≤◌, ◌&&◌, Bool, true, false, eqb, leb, ltb, List, [], ◌∷◌, ◌++◌, Some, refl, sym, ap, ◌∙◌, subst, arith, append_assoc, inl, inr}
use Rattle.std.specs.Prelude.{Contains, map, not}
use Rattle.std.specs.List.{AllByRecursion, filter, list_any}
use Rattle.std.proofs.Math.Bool.{and-false}
use Rattle.std.proofs.lemmas.Bool.{cases_Bool, eqb-true, leb-true, le-leb, ltb-true, ltb-false, lt-leb, lt-ltb}
use Rattle.std.proofs.lemmas.List.Elements.{filter_agree}
use Rattle.std.specs.List.Sorted.{IsPermutation}
use Rattle.std.proofs.lemmas.List.Sorted.{IsPermutation-map, list_any-IsPermutation}
use Rattle.kp_batch.specs.Batch.{Content, Plain, Produced, Marker}
use Rattle.kp_model.specs.Log.{Batch, IsLog, below, next_offset}
use Rattle.kp_model.specs.Producers.{content_of, is_of}
use Rattle.kp_model.specs.Transactions.{Aborted, aborted_by, aborted_in, is_abort, is_marker_of, open_of, stable}
use Rattle.kp_model.specs.Visible.{is_visible, records_in}
use Rattle.kp_visible.specs.Client.{aborts_between, drops, end_after, is_clear, is_clear_at, keeps_at, kept, named, overlapping, overlaps, spans}
use Rattle.kp_visible.specs.Filter.{hides, shows, shows_at}
use Rattle.kp_visible.specs.Laws.{IsStablePiece}
use Rattle.kp_visible.proofs.Tests.{all_at, any_agree, any_filtered, any_mapped, contained_any, none_any}
use Rattle.kp_visible.proofs.Lists.{Splits, all_filter_map, all_splits}
use Rattle.kp_visible.proofs.Places.{Apart, Around, IsApart, all_from, all_take, apart_filter, around, below_split, each_apart, log_apart}
use Rattle.kp_visible.proofs.Since.{opens_behind}
use Rattle.kp_visible.proofs.Opening.{opening}
use Rattle.kp_visible.proofs.Entries.{IsEntry, abort_marks, entry_is}
use Rattle.kp_visible.proofs.Stopping.{aborted_stable, hides_held}
use Rattle.kp_visible.proofs.Showing.{shows_visible}
use Rattle.kp_visible.proofs.Growing.{apart_front}
use Rattle.kp_visible.proofs.Alone.{any_spans}
use Rattle.kp_types.proofs.Elements.{all_append, all_behind, all_both, all_front, all_itself, all_weaker, filter_agree_on}

-- ---- no marker ended it before its own

-- an abort marker of the entry's producer stands below the entry's first offset, or not below its marker
abbrev IsNoEnd : Aborted → Batch → Type 0
IsNoEnd a m = is_marker_of a.producer m ≡ true → m.base < a.marker → m.base < a.first

ends_not : (log : List Batch) (x : Batch) (a : Aborted) → Apart 0 log → Splits log x → IsEntry log x a → AllByRecursion (IsNoEnd a) log
ends_not log x a apart s i =
    subst (AllByRecursion (IsNoEnd a)) (sym s.is)
    (all_append (IsNoEnd a) s.front (x ∷ s.back) (all_weaker (Splits s.front) (IsNoEnd a) earlier s.front (all_splits s.front))
    (late x (omega arith), all_weaker (λ m. next_offset x ≤ m.base) (IsNoEnd a) (λ m le. late m (omega (arith, le, some))) s.back (all_from (next_offset x) s.back at.behind)))
  where
    whole : Apart 0 (s.front ++ x ∷ s.back)
    whole = subst (Apart 0) s.is apart

    at : Around s.front s.back x
    at = around 0 s.front s.back x whole

    some : x.base < next_offset x
    some = at.some

    in_front : below x.base log ≡ s.front
    in_front = ap (below x.base) s.is ∙ below_split s.front s.back x at

    late : (m : Batch) → x.base ≤ m.base → IsNoEnd a m
    late m le marks lt = let is = i.marker in absurd (omega (arith, le, lt, is))

    earlier : (m : Batch) → Splits s.front m → IsNoEnd a m
    earlier m t marks lt =
        let known : Apart 0 s.front = subst (Apart 0) in_front (apart_filter (λ y. leb (next_offset y) x.base) 0 log apart) in
        let there = around 0 t.front t.back m (subst (Apart 0) t.is known) in
        let takes = there.some in
        let opened : open_of (t.front ++ m ∷ t.back) a.producer ≡ Some a.first =
        ap (λ (l : List Batch). open_of l a.producer) (sym t.is ∙ sym in_front) ∙ i.opened in
        opens_behind a.producer m.base a.first t.front t.back m marks
        (all_weaker (λ y. next_offset m ≤ y.base) (λ y. m.base < y.base) (λ y le. omega (arith, le, takes)) t.back (all_from (next_offset m) t.back there.behind)) opened

-- ---- where a batch of the piece stands

-- the end lies behind each of the batches
record Ends (offset : ℕ) (bs : List Batch) : Type 0 where
  least : offset ≤ end_after offset bs
  each : AllByRecursion (λ b. b.base < end_after offset bs) bs

ends : (offset : ℕ) (bs : List Batch) → Apart offset bs → Ends offset bs
ends offset [] apart = record { least = omega arith; each = tt }
ends offset (b ∷ bs) apart =
    let from = apart.0 in
    let some = apart.1 in
    let rest = ends (next_offset b) bs apart.2 in
    let upto = rest.least in
    record { least = omega (arith, from, some, upto); each = (omega (arith, some, upto), rest.each) }

-- an abort marker from the start on and up to the batch is one of the batches, and stands below this one
abbrev IsNear : List Batch → ℕ → ℕ → Batch → Type 0
IsNear batches start offset m = is_abort (content_of m) ≡ true → start ≤ m.base → m.base ≤ offset → Contains batches m × (m.base < offset)

record Stands (log batches : List Batch) (start end : ℕ) (b : Batch) : Type 0 where
  from : start ≤ b.base
  upto : b.base < end
  near : is_abort (content_of b) ≡ false → AllByRecursion (IsNear batches start b.base) log

near_parts : (log front batches rest : List Batch) (c : Batch) (bs : List Batch) → Apart 0 log → log ≡ front ++ (batches ++ rest) → batches ≡ c ∷ bs
    → (b : Batch) → Splits batches b → is_abort (content_of b) ≡ false → AllByRecursion (IsNear batches c.base b.base) log
near_parts log front batches rest c bs apart parts begins b s data_there =
    subst (AllByRecursion (IsNear batches c.base b.base)) (sym parts)
    (all_append (IsNear batches c.base b.base) front (batches ++ rest) in_front (all_append (IsNear batches c.base b.base) batches rest among behind))
  where
    first : log ≡ front ++ c ∷ (bs ++ rest)
    first = parts ∙ ap (λ (l : List Batch). front ++ (l ++ rest)) begins

    here : log ≡ (front ++ s.front) ++ b ∷ (s.back ++ rest)
    here =
        parts ∙ ap (λ (l : List Batch). front ++ (l ++ rest)) s.is ∙ ap (λ (l : List Batch). front ++ l) (append_assoc s.front (b ∷ s.back) rest)
        ∙ sym (append_assoc front s.front (b ∷ (s.back ++ rest)))

    in_front : AllByRecursion (IsNear batches c.base b.base) front
    in_front =
        all_weaker _ (IsNear batches c.base b.base) (λ m h aborts low high. let takes = h.0 in let upto = h.1 in absurd (omega (arith, takes, upto, low))) front
        (around 0 front (bs ++ rest) c (subst (Apart 0) first apart)).ends

    at : Around (front ++ s.front) (s.back ++ rest) b
    at = around 0 (front ++ s.front) (s.back ++ rest) b (subst (Apart 0) here apart)

    some : b.base < next_offset b
    some = at.some

    behind : AllByRecursion (IsNear batches c.base b.base) rest
    behind =
        all_weaker (λ m. next_offset b ≤ m.base) (IsNear batches c.base b.base) (λ m le aborts low high. absurd (omega (arith, le, high, some))) rest
        (all_behind (λ m. next_offset b ≤ m.base) s.back rest (all_from (next_offset b) (s.back ++ rest) at.behind))

    lower : (m : Batch) → m.base < next_offset m → IsApart b m → is_abort (content_of m) ≡ true → m.base ≤ b.base → m.base < b.base
    lower m takes (inl same) aborts high = let none : true ≡ false = sym aborts ∙ ap (λ (x : Batch). is_abort (content_of x)) same ∙ data_there in absurd cc
    lower m takes (inr (inl front_of)) aborts high = omega (arith, takes, front_of)
    lower m takes (inr (inr back_of)) aborts high = absurd (omega (arith, back_of, high, some))

    among : AllByRecursion (IsNear batches c.base b.base) batches
    among =
        let each = all_both (λ m. m.base < next_offset m) (IsApart b) log (all_take 0 log apart)
        (each_apart log b apart (record { front = front ++ s.front; back = s.back ++ rest; is = here })) in
        let those = all_front _ batches rest (all_behind _ front (batches ++ rest) (subst (AllByRecursion (λ m. (m.base < next_offset m) × IsApart b m)) parts each)) in
        all_weaker (λ m. Contains batches m × ((m.base < next_offset m) × IsApart b m)) (IsNear batches c.base b.base)
        (λ m h aborts low high. (h.0, lower m h.1.0 h.1.1 aborts high)) batches
        (all_both (Contains batches) (λ m. (m.base < next_offset m) × IsApart b m) batches (all_itself batches) those)

stands : (log front rest : List Batch) (c : Batch) (bs : List Batch) → Apart 0 log → log ≡ front ++ ((c ∷ bs) ++ rest)
    → AllByRecursion (Stands log (c ∷ bs) c.base (end_after (next_offset c) bs)) (c ∷ bs)
stands log front rest c bs apart parts =
    all_weaker _ (Stands log (c ∷ bs) c.base (end_after (next_offset c) bs))
    (λ b h. record { from = h.0.0; upto = h.0.1; near = near_parts log front (c ∷ bs) rest c bs apart parts refl b h.1 }) (c ∷ bs)
    (all_both _ (Splits (c ∷ bs)) (c ∷ bs) (all_both (λ b. c.base ≤ b.base) (λ b. b.base < end_after (next_offset c) bs) (c ∷ bs) from upto) (all_splits (c ∷ bs)))
  where
    at : Around front (bs ++ rest) c
    at = around 0 front (bs ++ rest) c (subst (Apart 0) parts apart)

    some : c.base < next_offset c
    some = at.some

    piece : Apart (next_offset c) bs
    piece = apart_front (next_offset c) bs rest at.behind

    from : AllByRecursion (λ b. c.base ≤ b.base) (c ∷ bs)
    from = all_from c.base (c ∷ bs) (omega arith, some, piece)

    upto : AllByRecursion (λ b. b.base < end_after (next_offset c) bs) (c ∷ bs)
    upto = let e = ends (next_offset c) bs piece in let least = e.least in (omega (arith, some, least), e.each)

-- ---- one entry

-- what the tests say of one another
by_tests : (own began below_end above from ended : Bool) → (began ≡ true → below_end ≡ true) → (own ≡ true → began ≡ true → above ≡ true → (from ≡ true) × (ended ≡ false))
    → (own ≡ true → began ≡ true → above ≡ false → from ≡ true → ended ≡ true)
    → ((below_end && from) && ((own && began) && not ended)) ≡ ((own && began) && above)
by_tests false began below_end above from ended one two three = and-false (below_end && from)
by_tests true false below_end above from ended one two three = and-false (below_end && from)
by_tests true true below_end true from ended one two three =
    let e = one refl in
    let t = two refl refl refl in
    rw (e, t.0, t.1) refl
by_tests true true below_end false false ended one two three = let e = one refl in rw e refl
by_tests true true below_end false true ended one two three =
    let e = one refl in
    let t = three refl refl refl refl in
    rw (e, t) refl

-- an entry's transaction begins below its marker
entry_began : (log : List Batch) (x : Batch) (a : Aborted) → Apart 0 log → Splits log x → IsEntry log x a → a.first < x.base
entry_began log x a apart s i =
    let at = around 0 s.front s.back x (subst (Apart 0) s.is apart) in
    let in_front : below x.base log ≡ s.front = ap (below x.base) s.is ∙ below_split s.front s.back x at in
    let o = opening s.front a.producer a.first (ap (λ (l : List Batch). open_of l a.producer) (sym in_front) ∙ i.opened) in
    let lower = all_at (λ y. (y.base < next_offset y) × (next_offset y ≤ x.base)) s.front o.batch (record { front = o.front; back = o.back; is = o.is }) at.ends in
    let takes = lower.0 in
    let upto = lower.1 in
    let begins = o.begins in
    omega (arith, takes, upto, begins)

-- a batch that doesn't end it is passed over
ends_it_not : (a : Aborted) (producer offset : ℕ) (m : Batch) → a.producer ≡ producer → offset < a.marker → IsNoEnd a m → aborts_between producer a.first offset m ≡ false
ends_it_not a producer offset m own late none = elim (cases_Bool (is_abort (content_of m))) [
  | inl aborts ↦ elim (cases_Bool (is_of producer m)) [
    | inl of ↦ elim (cases_Bool (ltb m.base offset)) [
      | inl lower ↦
          let marks : is_marker_of producer m ≡ true = rw (abort_marks (content_of m) aborts) of in
          let lt = ltb-true m.base offset lower in
          let earlier = none (subst (λ (n : ℕ). is_marker_of n m ≡ true) (sym own) marks) (omega (arith, lt, late)) in
          let out : leb a.first m.base ≡ false = lt-leb a.first m.base earlier in
          rw (aborts, of, out) refl
      | inr higher ↦ rw (aborts, of, higher) (and-false (leb a.first m.base))
    ]
    | inr other ↦ rw (aborts, other) refl
  ]
  | inr commits ↦ rw commits refl
]

-- an entry of the log is named and drops the batch where it spans it
dropping : (log front batches rest : List Batch) (start end producer : ℕ) (b : Batch) → Apart 0 log → log ≡ front ++ (batches ++ rest)
    → Stands log batches start end b → is_abort (content_of b) ≡ false
    → (x : Batch) (a : Aborted) → Splits log x → aborted_by log x ≡ Some a
    → (overlaps start end a && drops batches producer b.base (named a)) ≡ spans producer b.base a
dropping log front batches rest start end producer b apart parts st data_there x a s e =
    let i = entry_is log x a e in
    let at = i.marker in
    let from = st.from in
    let upto = st.upto in
    let began_below = entry_began log x a apart s i in
    let no_ends = all_front (IsNoEnd a) batches rest (all_behind (IsNoEnd a) front (batches ++ rest) (subst (AllByRecursion (IsNoEnd a)) parts (ends_not log x a apart s i))) in
    by_tests (eqb a.producer producer) (leb a.first b.base) (ltb a.first end) (ltb b.base a.marker) (leb start a.marker) (list_any (aborts_between producer a.first b.base) batches)
    (λ began. let le = leb-true a.first b.base began in lt-ltb a.first end (omega (arith, le, upto)))
    (λ own began above.
    let gt = ltb-true b.base a.marker above in (
      le-leb start a.marker (omega (arith, from, gt)),
      none_any (aborts_between producer a.first b.base) batches
          (all_weaker (IsNoEnd a) (λ m. aborts_between producer a.first b.base m ≡ false) (λ m none. ends_it_not a producer b.base m (eqb-true a.producer producer own) gt none) batches no_ends),
    ))
    (λ own began ended low.
    let le = ltb-false b.base a.marker ended in
    let start_le = leb-true start a.marker low in
    let near = all_at (IsNear batches start b.base) log x s (st.near data_there) i.aborts (omega (arith, start_le, at)) (omega (arith, le, at)) in
    let of : is_of producer x ≡ true = subst (λ (n : ℕ). is_of n x ≡ true) (eqb-true a.producer producer own) i.own in
    let aborts = i.aborts in
    let low_there : leb a.first x.base ≡ true = le-leb a.first x.base (omega (arith, began_below)) in
    let lower : ltb x.base b.base ≡ true = lt-ltb x.base b.base near.1 in
    let ends_it : aborts_between producer a.first b.base x ≡ true = rw (aborts, of, low_there, lower) refl in
    contained_any (aborts_between producer a.first b.base) batches x near.0 ends_it)

-- ---- all entries

drops_hides : (log front batches rest : List Batch) (start end producer : ℕ) (b : Batch) → IsLog log → log ≡ front ++ (batches ++ rest)
    → Stands log batches start end b → is_abort (content_of b) ≡ false
    → list_any (drops batches producer b.base) (map named (filter (overlaps start end) (aborted_in log))) ≡ hides (aborted_in log) producer b.base
unfolding aborted_in
drops_hides log front batches rest start end producer b lawful parts st data_there =
    any_mapped (drops batches producer b.base) named (filter (overlaps start end) (aborted_in log))
    ∙ any_filtered (λ a. drops batches producer b.base (named a)) (overlaps start end) (aborted_in log)
    ∙ any_agree (λ a. overlaps start end a && drops batches producer b.base (named a)) (spans producer b.base) (aborted_in log)
    (all_filter_map (aborted_by log) (Splits log) (λ a. (overlaps start end a && drops batches producer b.base (named a)) ≡ spans producer b.base a)
    (dropping log front batches rest start end producer b (log_apart log lawful) parts st data_there) log (all_splits log))
    ∙ any_spans log producer b.base lawful
    ∙ sym (hides_held (aborted_in log) producer b.base (aborted_stable log lawful))

-- one batch
keeps_shows : (log front batches rest : List Batch) (start end : ℕ) (b : Batch) → IsLog log → log ≡ front ++ (batches ++ rest)
    → Stands log batches start end b
    → keeps_at (map named (filter (overlaps start end) (aborted_in log))) batches b.base (content_of b) ≡ shows (aborted_in log) b
keeps_shows log front batches rest start end b lawful parts st = by_content (content_of b) refl
  where
    by_content : (content : Content) → content_of b ≡ content
        → keeps_at (map named (filter (overlaps start end) (aborted_in log))) batches b.base content ≡ shows_at (aborted_in log) b.base content
    by_content (Plain records) is = refl
    by_content (Produced producer epoch sequence transactional records) is =
        let data_there : is_abort (content_of b) ≡ false = rw is refl in
        ap (λ (dropped : Bool). not (transactional && dropped)) (drops_hides log front batches rest start end producer b lawful parts st data_there)
    by_content (Marker producer epoch coordinator commit) is = refl

-- ---- the piece

piece_stands : (log : List Batch) (c : Batch) (bs front rest : List Batch) (high_watermark : ℕ) → IsLog log → log ≡ front ++ ((c ∷ bs) ++ rest)
    → AllByRecursion (λ b. next_offset b ≤ stable log high_watermark) (c ∷ bs)
    → AllByRecursion (λ b. Stands log (c ∷ bs) c.base (end_after (next_offset c) bs) b × (Contains log b × (next_offset b ≤ stable log high_watermark))) (c ∷ bs)
piece_stands log c bs front rest high_watermark lawful parts within =
    let batches = c ∷ bs in
    let those = all_front (Contains log) batches rest (all_behind (Contains log) front (batches ++ rest) (subst (AllByRecursion (Contains log)) parts (all_itself log))) in
    all_both (Stands log batches c.base (end_after (next_offset c) bs)) _ batches (stands log front rest c bs (log_apart log lawful) parts) (all_both (Contains log) _ batches those within)

kept_parts : (log batches front rest : List Batch) (high_watermark : ℕ) → IsLog log → log ≡ front ++ (batches ++ rest)
    → AllByRecursion (λ b. next_offset b ≤ stable log high_watermark) batches
    → kept (map named (overlapping batches (aborted_in log))) batches ≡ filter (is_visible log) batches
kept_parts log [] front rest high_watermark lawful parts within = refl
kept_parts log (c ∷ bs) front rest high_watermark lawful parts within =
    let start = c.base in
    let end = end_after (next_offset c) bs in
    let batches = c ∷ bs in
    filter_agree_on (λ b. Stands log batches start end b × (Contains log b × (next_offset b ≤ stable log high_watermark)))
    (λ b. keeps_at (map named (filter (overlaps start end) (aborted_in log))) batches b.base (content_of b)) (is_visible log)
    (λ b h. keeps_shows log front batches rest start end b lawful parts h.0 ∙ shows_visible log high_watermark b lawful h.1.0 h.1.1) batches
    (piece_stands log c bs front rest high_watermark lawful parts within)

pub clients_keep : (log batches : List Batch) (high_watermark : ℕ) → IsLog log → IsStablePiece batches log high_watermark
    → kept (map named (overlapping batches (aborted_in log))) batches ≡ filter (is_visible log) batches
clients_keep log batches high_watermark lawful piece =
    kept_parts log batches piece.front piece.rest high_watermark lawful (piece.is ∙ append_assoc piece.front batches piece.rest) piece.below

pub clients_keep_records : (log batches : List Batch) (high_watermark : ℕ) → IsLog log → IsStablePiece batches log high_watermark
    → records_in (kept (map named (overlapping batches (aborted_in log))) batches) ≡ records_in (filter (is_visible log) batches)
clients_keep_records log batches high_watermark lawful piece = ap records_in (clients_keep log batches high_watermark lawful piece)

-- ---- by the transactions themselves

-- one that spans a batch of the piece overlaps the piece
spans_overlaps : (start end producer : ℕ) (b : Batch) (a : Aborted) → start ≤ b.base → b.base < end
    → (overlaps start end a && spans producer b.base a) ≡ spans producer b.base a
spans_overlaps start end producer b a from upto =
    by_cases (eqb a.producer producer) (leb a.first b.base) (ltb b.base a.marker) (ltb a.first end) (leb start a.marker)
    (λ began. let le = leb-true a.first b.base began in lt-ltb a.first end (omega (arith, le, upto)))
    (λ above. let lt = ltb-true b.base a.marker above in le-leb start a.marker (omega (arith, from, lt)))
  where
    by_cases : (own began above below_end late : Bool) → (began ≡ true → below_end ≡ true) → (above ≡ true → late ≡ true)
        → ((below_end && late) && ((own && began) && above)) ≡ ((own && began) && above)
    by_cases false began above below_end late one two = and-false (below_end && late)
    by_cases true false above below_end late one two = and-false (below_end && late)
    by_cases true true false below_end late one two = and-false (below_end && late)
    by_cases true true true below_end late one two =
        let e = one refl in
        let t = two refl in
        rw (e, t) refl

clear_shows : (log batches : List Batch) (start end : ℕ) (b : Batch) → IsLog log → Stands log batches start end b
    → is_clear (filter (overlaps start end) (aborted_in log)) b ≡ shows (aborted_in log) b
clear_shows log batches start end b lawful st = by_content (content_of b)
  where
    spanned : (producer : ℕ) → list_any (spans producer b.base) (filter (overlaps start end) (aborted_in log)) ≡ hides (aborted_in log) producer b.base
    spanned producer =
        any_filtered (spans producer b.base) (overlaps start end) (aborted_in log)
        ∙ any_agree (λ a. overlaps start end a && spans producer b.base a) (spans producer b.base) (aborted_in log)
        (each (aborted_in log))
        ∙ any_spans log producer b.base lawful ∙ sym (hides_held (aborted_in log) producer b.base (aborted_stable log lawful))
      where
        each : (l : List Aborted) → AllByRecursion (λ a. (overlaps start end a && spans producer b.base a) ≡ spans producer b.base a) l
        each [] = tt
        each (a ∷ l) = (spans_overlaps start end producer b a st.from st.upto, each l)

    by_content : (content : Content) → is_clear_at (filter (overlaps start end) (aborted_in log)) b.base content ≡ shows_at (aborted_in log) b.base content
    by_content (Plain records) = refl
    by_content (Produced producer epoch sequence transactional records) = ap (λ (hidden : Bool). not (transactional && hidden)) (spanned producer)
    by_content (Marker producer epoch coordinator commit) = refl

clear_parts : (log batches front rest : List Batch) (high_watermark : ℕ) → IsLog log → log ≡ front ++ (batches ++ rest)
    → AllByRecursion (λ b. next_offset b ≤ stable log high_watermark) batches
    → filter (is_clear (overlapping batches (aborted_in log))) batches ≡ filter (is_visible log) batches
clear_parts log [] front rest high_watermark lawful parts within = refl
clear_parts log (c ∷ bs) front rest high_watermark lawful parts within =
    let start = c.base in
    let end = end_after (next_offset c) bs in
    let batches = c ∷ bs in
    filter_agree_on (λ b. Stands log batches start end b × (Contains log b × (next_offset b ≤ stable log high_watermark)))
    (is_clear (filter (overlaps start end) (aborted_in log))) (is_visible log)
    (λ b h. clear_shows log batches start end b lawful h.0 ∙ shows_visible log high_watermark b lawful h.1.0 h.1.1) batches
    (piece_stands log c bs front rest high_watermark lawful parts within)

pub clear_of_log : (log batches : List Batch) (high_watermark : ℕ) → IsLog log → IsStablePiece batches log high_watermark
    → filter (is_clear (overlapping batches (aborted_in log))) batches ≡ filter (is_visible log) batches
clear_of_log log batches high_watermark lawful piece =
    clear_parts log batches piece.front piece.rest high_watermark lawful (piece.is ∙ append_assoc piece.front batches piece.rest) piece.below

clear_same : (one other : List Aborted) (offset : ℕ) (content : Content) → IsPermutation one other → is_clear_at other offset content ≡ is_clear_at one offset content
clear_same one other offset (Plain records) moved = refl
clear_same one other offset (Produced producer epoch sequence transactional records) moved =
    ap (λ (spanned : Bool). not (transactional && spanned)) (sym (list_any-IsPermutation (spans producer offset) one other moved))
clear_same one other offset (Marker producer epoch coordinator commit) moved = refl

-- in whatever order they are named
pub clear_moved : (one other : List Aborted) (batches : List Batch) → IsPermutation one other → filter (is_clear other) batches ≡ filter (is_clear one) batches
clear_moved one other batches moved = filter_agree (is_clear other) (is_clear one) (λ b. clear_same one other b.base (content_of b) moved) batches

-- ---- other orders of what is named

keeps_same : (named_there others : List (ℕ × ℕ)) (batches : List Batch) (offset : ℕ) (content : Content) → IsPermutation named_there others
    → keeps_at others batches offset content ≡ keeps_at named_there batches offset content
keeps_same named_there others batches offset (Plain records) moved = refl
keeps_same named_there others batches offset (Produced producer epoch sequence transactional records) moved =
    ap (λ (dropped : Bool). not (transactional && dropped)) (sym (list_any-IsPermutation (drops batches producer offset) named_there others moved))
keeps_same named_there others batches offset (Marker producer epoch coordinator commit) moved = refl

-- a client is left with the same, in whatever order they are named
pub kept_moved : (one other : List Aborted) (batches : List Batch) → IsPermutation one other → kept (map named other) batches ≡ kept (map named one) batches
kept_moved one other batches moved =
    let entries = IsPermutation-map named one other moved in
    filter_agree (λ b. keeps_at (map named other) batches b.base (content_of b)) (λ b. keeps_at (map named one) batches b.base (content_of b))
    (λ b. keeps_same (map named one) (map named other) batches b.base (content_of b) entries) batches
