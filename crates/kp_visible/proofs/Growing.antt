-- What a read-committed consumer was shown before: nothing that is aborted later, and nothing that is taken back.
use Rattle.std.proofs.Common.{◌≡◌, ℕ, ◌<◌, ◌≤◌, Bool, true, false, cond, leb, ◌⊎◌, List, [], ◌∷◌, ◌++◌, Option, Some, None, refl, sym, ap, ◌∙◌, subst, arith, append_assoc, inl, inr}
use Rattle.std.specs.Prelude.{Contains, drop, length, map, min, not, unwrap_or}
use Rattle.std.proofs.lemmas.List.{append-nil, drop-map, map-append}
use Rattle.kp_visible.specs.Looked.{AreKnown, are_data, are_visible, chosen}
use Rattle.kp_visible.proofs.Stretches.{chosen_filter}
use Rattle.std.specs.List.{AllByRecursion, enumerate_from, filter, find, fold, reduce}
use Rattle.std.specs.Option.{IsSomeAnd, option_and_then, option_map_or, option_or}
use Rattle.std.proofs.lemmas.Bool.{cases_Bool, eq-eqb, eqb-true, le-leb, leb-false, leb-true, lt-leb}
use Rattle.std.proofs.lemmas.List.Concat.{flat_map-append}
use Rattle.std.proofs.lemmas.List.Elements.{filter-append}
use Rattle.kp_record.specs.Record.{Record}
use Rattle.kp_batch.specs.Batch.{Content, Plain, Produced, Marker, records_of, is_transactional}
use Rattle.kp_model.specs.Beginning.{Begins}
use Rattle.kp_model.specs.Log.{Batch, IsLog, below, from_offset, next_offset}
use Rattle.kp_model.specs.Producers.{content_of, producer_of}
use Rattle.kp_model.specs.Transactions.{Open, is_abort, is_marker_of, is_some_number, is_transactional_of, open_of, open_in, opened_by, stable}
use Rattle.kp_model.specs.Visible.{is_commit, is_data, is_visible, records_in, visible}
use Rattle.kp_visible.specs.Laws.{IsAbortedIn, Spans, ending_of}
use Rattle.kp_visible.proofs.Lists.{Splits, splits, all_filter_map, all_flat_map, all_here, filter_all, filter_none, none_passes}
use Rattle.kp_visible.proofs.Places.{Apart, IsApart, all_from, all_take, apart_filter, around, each_apart, from_split, log_apart}
use Rattle.kp_visible.proofs.Opening.{Opening, opening}
use Rattle.kp_visible.proofs.Stability.{stable_before, stable_within}
use Rattle.kp_visible.proofs.Showing.{commit_or_abort, visible_at}
use Rattle.kp_visible.proofs.Consumers.{ending_at, found_marks, outside}
use Rattle.kp_model.proofs.Plain.Beginnings.{Begins-trans}
use Rattle.kp_txns.proofs.Lists.{map_agree_on}
use Rattle.kp_types.proofs.Elements.{all_weaker, all_both, all_front, all_filter, filter_agree_on, all_itself, find-append}

-- ---- aborted records were hidden

-- a batch whose next marker in a longer log is an abort isn't visible in the shorter one
was_hidden : (front more : List Batch) (b : Batch) → is_transactional (content_of b) ≡ true → IsSomeAnd (ending_of (front ++ more) b) (λ m. is_abort (content_of m) ≡ true) → is_visible front b ≡ false
was_hidden front more b transactional aborted = by_content (content_of b) refl
  where
    ahead : List Batch
    ahead = from_offset (next_offset b) front

    by_next : (producer : ℕ) (o : Option Batch) → find (is_marker_of producer) ahead ≡ o → IsSomeAnd (find (is_marker_of producer) (from_offset (next_offset b) (front ++ more))) (λ m. is_abort (content_of m) ≡ true)
        → option_map_or (λ m. is_commit (content_of m)) o false ≡ false
    by_next producer None e aborts = refl
    by_next producer (Some m) e aborts =
        let test : Batch → Bool = λ x. leb (next_offset b) x.base in
        let next : find (is_marker_of producer) (from_offset (next_offset b) (front ++ more)) ≡ Some m =
        ap (find (is_marker_of producer)) (filter-append test front more) ∙ find-append (is_marker_of producer) ahead (from_offset (next_offset b) more)
        ∙ ap (λ (o : Option Batch). option_or o (find (is_marker_of producer) (from_offset (next_offset b) more))) e in
        commit_or_abort (content_of m) (found_marks ahead m producer e)
        ∙ ap not (subst (λ (o : Option Batch). IsSomeAnd o (λ m. is_abort (content_of m) ≡ true)) next aborts)

    by_content : (content : Content) → content_of b ≡ content → is_visible front b ≡ false
    by_content (Plain records) is = let none : false ≡ true = rw is at transactional in absurd cc
    by_content (Produced producer epoch sequence false records) is = let none : false ≡ true = rw is at transactional in absurd cc
    by_content (Produced producer epoch sequence true records) is =
        ap (visible_at front b) is
        ∙ by_next producer (find (is_marker_of producer) ahead) refl
        (subst (λ (c : Content). IsSomeAnd (ending_at (front ++ more) b c) (λ m. is_abort (content_of m) ≡ true)) is aborted)
    by_content (Marker producer epoch coordinator commit) is = let none : false ≡ true = rw is at transactional in absurd cc

pub aborted_was_hidden : (front more : List Batch) (b : Batch) → IsLog (front ++ more) → IsAbortedIn (front ++ more) b
    → (high_watermark : ℕ) → AllByRecursion (λ r. ¬ Spans b r.0) (visible front high_watermark)
unfolding visible
aborted_was_hidden front more b lawful h high_watermark =
    let known = below (stable front high_watermark) front in
    let hidden = was_hidden front more b h.transactional h.aborted in
    let apart = all_front (IsApart b) front more (each_apart (front ++ more) b (log_apart (front ++ more) lawful) (splits (front ++ more) b h.stands)) in
    let below_apart = all_weaker _ (IsApart b) (λ x p. p.0) known (all_filter (λ x. leb (next_offset x) (stable front high_watermark)) (IsApart b) front apart) in
    all_flat_map (λ x. enumerate_from x.base (records_of x.body)) (λ x. IsApart b x × (is_visible front x ≡ true)) (λ r. ¬ Spans b r.0)
    (λ x p. elim p.0 [
      | inl same ↦ let shown : is_visible front b ≡ true = subst (λ (y : Batch). is_visible front y ≡ true) same p.1 in let bad : true ≡ false = sym shown ∙ hidden in absurd cc
      | inr other ↦ outside b x other
    ]) (filter (is_visible front) known) (all_filter (is_visible front) (IsApart b) known below_apart)

-- ---- the batches below an offset are the log's first ones

record Front (offset : ℕ) (log : List Batch) : Type 0 where
  rest : List Batch
  is : log ≡ below offset log ++ rest

front_of : (low offset : ℕ) (log : List Batch) → Apart low log → Front offset log
front_of low offset [] apart = record { rest = []; is = refl }
front_of low offset (b ∷ bs) apart = elim (cases_Bool (leb (next_offset b) offset)) [
  | inl t ↦
      let more = front_of (next_offset b) offset bs apart.2 in
      record { rest = more.rest; is = rw t (ap (λ (l : List Batch). b ∷ l) more.is) }
  | inr f ↦
      let test : Batch → Bool = λ x. leb (next_offset x) offset in
      let high = leb-false (next_offset b) offset f in
      let none = filter_none test bs (all_weaker _ (λ x. test x ≡ false) (λ x h. let from = h.0 in let takes = h.1 in lt-leb (next_offset x) offset (omega (arith, high, from, takes))) bs
      (all_both (λ x. next_offset b ≤ x.base) (λ x. x.base < next_offset x) bs (all_from (next_offset b) bs apart.2) (all_take (next_offset b) bs apart.2))) in
      record { rest = b ∷ bs; is = rw (f, none) refl }
]

-- each of them ends by the offset
all_below : (offset : ℕ) (log : List Batch) → AllByRecursion (λ x. next_offset x ≤ offset) (below offset log)
all_below offset [] = tt
all_below offset (b ∷ bs) = elim (cases_Bool (leb (next_offset b) offset)) [
  | inl t ↦ rw t (leb-true (next_offset b) offset t, all_below offset bs)
  | inr f ↦ rw f (all_below offset bs)
]

-- those below one offset are among those below a higher one
below_twice : (low high : ℕ) (log : List Batch) → low ≤ high → below low (below high log) ≡ below low log
below_twice low high [] le = refl
below_twice low high (b ∷ bs) le = elim (cases_Bool (leb (next_offset b) high)) [
  | inl t ↦ rw t (ap (λ (l : List Batch). cond (leb (next_offset b) low) (b ∷ l) l) (below_twice low high bs le))
  | inr f ↦
      let over = leb-false (next_offset b) high f in
      let out : leb (next_offset b) low ≡ false = lt-leb (next_offset b) low (omega (arith, over, le)) in
      rw (f, out) (below_twice low high bs le)
]

-- so they are the first ones too of a longer log below a higher offset
record Longer (earlier later : ℕ) (front more : List Batch) : Type 0 where
  rest : List Batch
  is : below later (front ++ more) ≡ below earlier front ++ rest

longer : (earlier later : ℕ) (front more : List Batch) → Apart 0 front → AllByRecursion (λ x. next_offset x ≤ later) (below earlier front) → Longer earlier later front more
longer earlier later front more apart within =
    let test : Batch → Bool = λ x. leb (next_offset x) later in
    let f = front_of 0 earlier front apart in
    let here = filter_all test (below earlier front) (all_weaker _ (λ x. test x ≡ true) (λ x le. le-leb (next_offset x) later le) (below earlier front) within) in
    record {
      rest = below later (f.rest ++ more);
      is =
          ap (λ (l : List Batch). below later (l ++ more)) f.is ∙ ap (below later) (append_assoc (below earlier front) f.rest more)
          ∙ filter-append test (below earlier front) (f.rest ++ more) ∙ ap (λ (l : List Batch). l ++ below later (f.rest ++ more)) here;
    }

-- ---- no transaction that is open later begins in front of a batch that was below the last stable offset

-- of two cuttings of a list, the first one's middle stands in the other's front, or behind it
record Inside {X : Type 0} (xs ys us vs : List X) (t : X) : Type 0 where
  rest : List X
  is : us ≡ xs ++ t ∷ rest
  back : ys ≡ rest ++ vs

cut : {X : Type 0} (xs ys us vs : List X) (t : X) → xs ++ t ∷ ys ≡ us ++ vs → Inside xs ys us vs t ⊎ Begins us xs
cut xs ys [] vs t e = inr (record { rest = xs; is = refl })
cut {X = X} [] ys (u ∷ us) vs t e =
    let first : u ≡ t = cc in
    let back : ys ≡ us ++ vs = cc in
    inl (record { rest = us; is = ap (λ (x : X). x ∷ us) first; back = back })
cut {X = X} (x ∷ xs) ys (u ∷ us) vs t e =
    let first : u ≡ x = cc in
    let others : xs ++ t ∷ ys ≡ us ++ vs = cc in
    elim (cut xs ys us vs t others) [
      | inl h ↦ inl (record { rest = h.rest; is = ap (λ (y : X). y ∷ us) first ∙ ap (λ (l : List X). x ∷ l) h.is; back = h.back })
      | inr h ↦ inr (record { rest = h.rest; is = ap (λ (y : X). y ∷ (us ++ h.rest)) first ∙ ap (λ (l : List X). x ∷ l) h.is })
    ]

-- what is above an offset decides nothing below it
stable_known : (log : List Batch) (high_watermark : ℕ) → stable (below high_watermark log) high_watermark ≡ stable log high_watermark
unfolding stable
stable_known log high_watermark =
    ap (λ (known : List Batch). unwrap_or (reduce min (map (λ t. t.first) (open_in known))) high_watermark)
    (below_twice high_watermark high_watermark log (omega arith))

before_open : (front more : List Batch) (earlier later producer first : ℕ) → Apart 0 (front ++ more) → Apart 0 front → earlier ≤ later
    → open_of (below later (front ++ more)) producer ≡ Some first → AllByRecursion (λ x. next_offset x ≤ first) (below (stable front earlier) front)
before_open front more earlier later producer first whole apart le opened =
    elim (cut o.front o.back (below earlier front) l.rest o.batch (sym o.is ∙ l.is)) [
      | inl c ↦
          let unmarked = all_front (λ x. is_marker_of producer x ≡ false) c.rest l.rest (subst (AllByRecursion (λ x. is_marker_of producer x ≡ false)) c.back o.unmarked.1) in
          let within = all_here (λ x. next_offset x ≤ earlier) o.front c.rest o.batch (subst (AllByRecursion (λ x. next_offset x ≤ earlier)) c.is (all_below earlier front)) in
          let held = stable_before o.front c.rest o.batch producer earlier (subst (Apart 0) c.is known_apart) o.own (o.unmarked.0, unmarked) within in
          let same : stable (o.front ++ o.batch ∷ c.rest) earlier ≡ stable front earlier =
          ap (λ (known : List Batch). stable known earlier) (sym c.is) ∙ stable_known front earlier in
          let begins = o.begins in
          all_weaker (λ x. next_offset x ≤ stable front earlier) (λ x. next_offset x ≤ first) (λ x ends. omega (arith, held, same, begins, ends))
          (below (stable front earlier) front) (all_below (stable front earlier) front)
      | inr c ↦
          let begins = o.begins in
          let ends = (around 0 o.front o.back o.batch (subst (Apart 0) o.is later_apart)).ends in
          let here = all_weaker _ (λ x. next_offset x ≤ first) (λ x h. let upto = h.1 in omega (arith, begins, upto)) o.front ends in
          let known = all_front (λ x. next_offset x ≤ first) (below earlier front) c.rest (subst (AllByRecursion (λ x. next_offset x ≤ first)) (sym c.is) here) in
          let kept = all_filter (λ x. leb (next_offset x) (stable front earlier)) (λ x. next_offset x ≤ first) (below earlier front) known in
          subst (AllByRecursion (λ x. next_offset x ≤ first)) (below_twice (stable front earlier) earlier front (stable_within front earlier apart))
          (all_weaker _ (λ x. next_offset x ≤ first) (λ x h. h.0) (below (stable front earlier) (below earlier front)) kept)
    ]
  where
    o : Opening (below later (front ++ more)) producer first
    o = opening (below later (front ++ more)) producer first opened

    l : Longer earlier later front more
    l = longer earlier later front more apart (all_weaker (λ x. next_offset x ≤ earlier) (λ x. next_offset x ≤ later) (λ x ends. omega (arith, ends, le)) (below earlier front) (all_below earlier front))

    known_apart : Apart 0 (below earlier front)
    known_apart = apart_filter (λ x. leb (next_offset x) earlier) 0 front apart

    later_apart : Apart 0 (below later (front ++ more))
    later_apart = apart_filter (λ x. leb (next_offset x) later) 0 (front ++ more) whole

-- ---- so they are below it later too

is_number : (n : ℕ) (o : Option ℕ) → is_some_number n o ≡ true → o ≡ Some n
is_number n None e = absurd cc
is_number n (Some m) e = ap Some (eqb-true m n e)

opened_is : (log : List Batch) (x : Batch) (o : Open) → opened_by log x ≡ Some o → open_of log o.producer ≡ Some o.first
opened_is log x o e = by_producer (producer_of (content_of x)) e
  where
    by_producer : (q : Option (ℕ × ℕ)) → option_and_then (λ p. cond (is_some_number x.base (open_of log p.0)) (Some (let y : Open = record { producer = p.0; first = x.base } in y)) None) q ≡ Some o
        → open_of log o.producer ≡ Some o.first
    by_producer None is = absurd cc
    by_producer (Some p) is = elim (cases_Bool (is_some_number x.base (open_of log p.0))) [
      | inl t ↦
          let y : Open = record { producer = p.0; first = x.base } in
          let found : Some y ≡ Some o = rw t at is in
          let same : y ≡ o = cc in
          subst (λ (z : Open). open_of log z.producer ≡ Some z.first) same (is_number x.base (open_of log p.0) t)
      | inr f ↦ let none : None ≡ Some o = rw f at is in absurd cc
    ]

fold_above : (low n : ℕ) (ns : List ℕ) → low ≤ n → AllByRecursion (λ m. low ≤ m) ns → low ≤ fold min n ns
fold_above low n [] le all = le
fold_above low n (m ∷ ns) le all = let here = all.0 in fold_above low (min n m) ns (omega (arith, le, here)) all.1

least_above : (low high : ℕ) (opens : List Open) → low ≤ high → AllByRecursion (λ o. low ≤ o.first) opens → low ≤ unwrap_or (reduce min (map (λ o. o.first) opens)) high
least_above low high [] le all = le
least_above low high (o ∷ opens) le all = fold_above low o.first (map (λ o. o.first) opens) all.0 (firsts opens all.1)
  where
    firsts : (os : List Open) → AllByRecursion (λ o. low ≤ o.first) os → AllByRecursion (λ n. low ≤ n) (map (λ o. o.first) os)
    firsts [] h = tt
    firsts (p ∷ os) h = (h.0, firsts os h.1)

all_turned : {X Y : Type 0} (P : X → Y → Type 0) (xs : List X) (ys : List Y) → AllByRecursion (λ y. AllByRecursion (λ x. P x y) xs) ys → AllByRecursion (λ x. AllByRecursion (P x) ys) xs
all_turned P [] ys all = tt
all_turned P (x ∷ xs) ys all = (
  all_weaker _ (P x) (λ y h. h.0) ys all,
  all_turned P xs ys (all_weaker _ (λ y. AllByRecursion (λ z. P z y) xs) (λ y h. h.1) ys all),
)

stays_below : (front more : List Batch) (earlier later : ℕ) → Apart 0 (front ++ more) → Apart 0 front → earlier ≤ later
    → AllByRecursion (λ x. next_offset x ≤ stable (front ++ more) later) (below (stable front earlier) front)
unfolding stable open_in
stays_below front more earlier later whole apart le =
    let known = below (stable front earlier) front in
    let now = below later (front ++ more) in
    let each = all_filter_map (opened_by now) (Contains now) (λ o. AllByRecursion (λ x. next_offset x ≤ o.first) known)
    (λ x o stands e. before_open front more earlier later o.producer o.first whole apart le (opened_is now x o e)) now (all_itself now) in
    let open_behind = all_turned (λ x o. next_offset x ≤ o.first) known (open_in now) each in
    let high = stable_within front earlier apart in
    all_weaker (λ x. AllByRecursion (λ o. next_offset x ≤ o.first) (open_in now) × (next_offset x ≤ stable front earlier)) (λ x. next_offset x ≤ stable (front ++ more) later)
    (λ x h. let ends = h.1 in least_above (next_offset x) later (open_in now) (omega (arith, high, le, ends)) h.0) known
    (all_both (λ x. AllByRecursion (λ o. next_offset x ≤ o.first) (open_in now)) (λ x. next_offset x ≤ stable front earlier) known open_behind (all_below (stable front earlier) front))

-- ---- what was visible stays so

-- of a batch below the last stable offset it is settled whether it is visible
pub settled_is : (front more : List Batch) (earlier : ℕ) (b : Batch) → Apart 0 front → Contains front b → next_offset b ≤ stable front earlier → is_visible (front ++ more) b ≡ is_visible front b
settled_is front more earlier b apart stands within = by_content (content_of b) refl
  where
    ahead : List Batch
    ahead = from_offset (next_offset b) front

    s : Splits front b
    s = splits front b stands

    parts : Apart 0 (s.front ++ b ∷ s.back)
    parts = subst (Apart 0) s.is apart

    behind_is : ahead ≡ s.back
    behind_is = ap (from_offset (next_offset b)) s.is ∙ from_split s.front s.back b (around 0 s.front s.back b parts)

    by_next : (producer : ℕ) → is_transactional_of producer b ≡ true → is_marker_of producer b ≡ false → (o : Option Batch) → find (is_marker_of producer) ahead ≡ o
        → find (is_marker_of producer) (from_offset (next_offset b) (front ++ more)) ≡ find (is_marker_of producer) ahead
    by_next producer own unmarked None e =
        let some = (around 0 s.front s.back b parts).some in
        let high = stable_within front earlier apart in
        let none = none_passes (is_marker_of producer) s.back (ap (find (is_marker_of producer)) (sym behind_is) ∙ e) in
        let back = stable_before s.front s.back b producer earlier parts own (unmarked, none) (omega (arith, within, high)) in
        let held : stable front earlier ≤ b.base = subst (λ (l : List Batch). stable l earlier ≤ b.base) (sym s.is) back in
        absurd (omega (arith, some, held, within))
    by_next producer own unmarked (Some m) e =
        let test : Batch → Bool = λ x. leb (next_offset b) x.base in
        ap (find (is_marker_of producer)) (filter-append test front more) ∙ find-append (is_marker_of producer) ahead (from_offset (next_offset b) more)
        ∙ ap (λ (o : Option Batch). option_or o (find (is_marker_of producer) (from_offset (next_offset b) more))) e ∙ sym e

    by_content : (content : Content) → content_of b ≡ content → is_visible (front ++ more) b ≡ is_visible front b
    by_content (Plain records) is = rw is refl
    by_content (Produced producer epoch sequence false records) is = rw is refl
    by_content (Produced producer epoch sequence true records) is =
        let same = eq-eqb producer producer refl in
        let own : is_transactional_of producer b ≡ true = rw is same in
        let unmarked : is_marker_of producer b ≡ false = rw is refl in
        ap (visible_at (front ++ more) b) is
        ∙ ap (λ (o : Option Batch). option_map_or (λ m. is_commit (content_of m)) o false) (by_next producer own unmarked (find (is_marker_of producer) ahead) refl)
        ∙ sym (ap (visible_at front b) is)
    by_content (Marker producer epoch coordinator commit) is = rw is refl

pub apart_front : (low : ℕ) (xs ys : List Batch) → Apart low (xs ++ ys) → Apart low xs
apart_front low [] ys h = tt
apart_front low (x ∷ xs) ys h = (h.0, h.1, apart_front (next_offset x) xs ys h.2)

-- the batches below the last stable offset, which stand in the log
pub stand_below : (log : List Batch) (offset : ℕ) → AllByRecursion (λ x. Contains log x × (next_offset x ≤ offset)) (below offset log)
stand_below log offset =
    all_weaker _ (λ x. Contains log x × (next_offset x ≤ offset)) (λ x h. (h.0, leb-true (next_offset x) offset h.1)) (below offset log)
    (all_filter (λ x. leb (next_offset x) offset) (Contains log) log (all_itself log))

pub visible_stays : (front more : List Batch) (earlier later : ℕ) → IsLog (front ++ more) → earlier ≤ later → Begins (visible front earlier) (visible (front ++ more) later)
unfolding visible
visible_stays front more earlier later lawful le =
    let whole = front ++ more in
    let whole_apart = log_apart whole lawful in
    let apart = apart_front 0 front more whole_apart in
    let known = below (stable front earlier) front in
    let placed : Batch → List (ℕ × Record) = λ x. enumerate_from x.base (records_of x.body) in
    let l = longer (stable front earlier) (stable whole later) front more apart (stays_below front more earlier later whole_apart apart le) in
    let settled = filter_agree_on _ (is_visible whole) (is_visible front) (λ x h. settled_is front more earlier x apart h.0 h.1) known (stand_below front (stable front earlier)) in
    let joined : filter (is_visible whole) (below (stable whole later) whole) ≡ filter (is_visible front) known ++ filter (is_visible whole) l.rest =
    ap (filter (is_visible whole)) l.is ∙ filter-append (is_visible whole) known l.rest ∙ ap (λ (k : List Batch). k ++ filter (is_visible whole) l.rest) settled in
    record {
      rest = records_in (filter (is_visible whole) l.rest);
      is = sym (ap records_in joined ∙ flat_map-append placed (filter (is_visible front) known) (filter (is_visible whole) l.rest));
    }

-- ---- what is known of the first batches stays so

visible_known : (front more : List Batch) (earlier later : ℕ) → IsLog (front ++ more) → earlier ≤ later → Begins (are_visible front earlier) (are_visible (front ++ more) later)
visible_known front more earlier later lawful le =
    let whole = front ++ more in
    let whole_apart = log_apart whole lawful in
    let apart = apart_front 0 front more whole_apart in
    let known = below (stable front earlier) front in
    let l = longer (stable front earlier) (stable whole later) front more apart (stays_below front more earlier later whole_apart apart le) in
    let settled = map_agree_on _ (is_visible whole) (is_visible front) (λ x h. settled_is front more earlier x apart h.0 h.1) known (stand_below front (stable front earlier)) in
    record {
      rest = map (is_visible whole) l.rest;
      is = sym (ap (map (is_visible whole)) l.is ∙ map-append (is_visible whole) known l.rest ∙ ap (λ (k : List Bool). k ++ map (is_visible whole) l.rest) settled);
    }

data_known : (front more : List Batch) (earlier later : ℕ) → IsLog (front ++ more) → earlier ≤ later → Begins (are_data front earlier) (are_data (front ++ more) later)
data_known front more earlier later lawful le =
    let apart = apart_front 0 front more (log_apart (front ++ more) lawful) in
    let l = longer earlier later front more apart (all_weaker (λ x. next_offset x ≤ earlier) (λ x. next_offset x ≤ later) (λ x ends. omega (arith, ends, le)) (below earlier front) (all_below earlier front)) in
    record { rest = map is_data l.rest; is = sym (ap (map is_data) l.is ∙ map-append is_data (below earlier front) l.rest) }

-- the log has grown, and the high watermark has risen
pub known_grows : (front more : List Batch) (earlier later : ℕ) (uncommitted committed : List Bool) → IsLog (front ++ more) → earlier ≤ later
    → AreKnown front earlier uncommitted committed → AreKnown (front ++ more) later uncommitted committed
known_grows front more earlier later uncommitted committed lawful le known = record {
  read_uncommitted = Begins-trans known.read_uncommitted (data_known front more earlier later lawful le);
  read_committed = Begins-trans known.read_committed (visible_known front more earlier later lawful le);
}

-- the high watermark has risen
pub known_rises : (log : List Batch) (earlier later : ℕ) (uncommitted committed : List Bool) → IsLog log → earlier ≤ later → AreKnown log earlier uncommitted committed → AreKnown log later uncommitted committed
known_rises log earlier later uncommitted committed lawful le known =
    let same = append-nil log in
    subst (λ (l : List Batch). AreKnown l later uncommitted committed) same
    (known_grows log [] earlier later uncommitted committed (subst IsLog (sym same) lawful) le known)

-- ---- what lies above the high watermark counts for nothing

-- the batches below the last stable offset are the same ones
stable_below : (log : List Batch) (high_watermark : ℕ) → Apart 0 log → below (stable log high_watermark) log ≡ below (stable (below high_watermark log) high_watermark) (below high_watermark log)
stable_below log high_watermark apart =
    let known = below high_watermark log in
    let high = stable_within known high_watermark (apart_filter (λ x. leb (next_offset x) high_watermark) 0 log apart) in
    let held = stable_known log high_watermark in
    sym (below_twice (stable log high_watermark) high_watermark log (omega (arith, high, held))) ∙ ap (λ (offset : ℕ). below offset known) (sym held)

-- and so are those of them that are visible
known_below : (log : List Batch) (high_watermark : ℕ) → Apart 0 log → are_visible log high_watermark ≡ are_visible (below high_watermark log) high_watermark
known_below log high_watermark apart =
    let known = below high_watermark log in
    let f = front_of 0 high_watermark log apart in
    let known_apart = apart_filter (λ x. leb (next_offset x) high_watermark) 0 log apart in
    let shown = below (stable known high_watermark) known in
    let settled = map_agree_on _ (is_visible (known ++ f.rest)) (is_visible known) (λ x h. settled_is known f.rest high_watermark x known_apart h.0 h.1) shown (stand_below known (stable known high_watermark)) in
    ap (map (is_visible log)) (stable_below log high_watermark apart) ∙ ap (λ (l : List Batch). map (is_visible l) shown) f.is ∙ settled

pub visible_below : (log : List Batch) (high_watermark : ℕ) → IsLog log → visible log high_watermark ≡ visible (below high_watermark log) high_watermark
unfolding visible
visible_below log high_watermark lawful =
    let apart = log_apart log lawful in
    let known = below high_watermark log in
    let there = below (stable log high_watermark) log in
    let shown = below (stable known high_watermark) known in
    let chosen_is : chosen (are_visible log high_watermark) there ≡ chosen (are_visible known high_watermark) shown =
    ap (λ (vs : List Bool). chosen vs there) (known_below log high_watermark apart) ∙ ap (λ (bs : List Batch). chosen (are_visible known high_watermark) bs) (stable_below log high_watermark apart) in
    ap records_in (sym (chosen_filter (is_visible log) there) ∙ chosen_is ∙ chosen_filter (is_visible known) shown)

-- a batch that ends above the high watermark is taken back
pub known_cut : (before : List Batch) (b : Batch) (high_watermark : ℕ) (uncommitted committed : List Bool) → IsLog (before ++ b ∷ []) → high_watermark < next_offset b
    → AreKnown (before ++ b ∷ []) high_watermark uncommitted committed → AreKnown before high_watermark uncommitted committed
known_cut before b high_watermark uncommitted committed lawful above known =
    let test : Batch → Bool = λ x. leb (next_offset x) high_watermark in
    let out : test b ≡ false = lt-leb (next_offset b) high_watermark above in
    let one : filter test (b ∷ []) ≡ [] = rw out refl in
    let same : below high_watermark (before ++ b ∷ []) ≡ below high_watermark before = filter-append test before (b ∷ []) ∙ ap (λ (l : List Batch). below high_watermark before ++ l) one ∙ append-nil (below high_watermark before) in
    let told : are_visible (before ++ b ∷ []) high_watermark ≡ are_visible before high_watermark =
    known_below (before ++ b ∷ []) high_watermark (log_apart (before ++ b ∷ []) lawful) ∙ ap (λ (l : List Batch). are_visible l high_watermark) same
    ∙ sym (known_below before high_watermark (apart_front 0 before (b ∷ []) (log_apart (before ++ b ∷ []) lawful))) in
    record {
      read_uncommitted = subst (Begins uncommitted) (ap (map is_data) same) known.read_uncommitted;
      read_committed = subst (Begins committed) told known.read_committed;
    }

-- ---- more of them are looked at

drop_begun : {X : Type 0} (xs ys : List X) → Begins xs ys → xs ++ drop (length xs) ys ≡ ys
drop_begun [] ys b = refl
drop_begun (x ∷ xs) [] b = let bad = b.is in absurd cc
drop_begun (x ∷ xs) (y ∷ ys) b =
    let whole : x ∷ (xs ++ b.rest) ≡ y ∷ ys = b.is in
    let head : x ≡ y = cc in
    let tail : xs ++ b.rest ≡ ys = cc in
    let rest : xs ++ drop (length xs) ys ≡ ys = drop_begun xs ys (record { rest = b.rest; is = tail }) in
    cc

-- with those that come next they are all
pub looked_all : (p : Batch → Bool) (known : List Batch) (verdicts : List Bool) → Begins verdicts (map p known) → verdicts ++ map p (drop (length verdicts) known) ≡ map p known
looked_all p known verdicts begun = ap (λ (vs : List Bool). verdicts ++ vs) (sym (drop-map p (length verdicts) known)) ∙ drop_begun verdicts (map p known) begun

-- and of those from a place on they choose the ones that pass
pub chosen_from : (p : Batch → Bool) (known : List Batch) (place : ℕ) (verdicts : List Bool) → verdicts ≡ map p known → chosen (drop place verdicts) (drop place known) ≡ filter p (drop place known)
chosen_from p known place verdicts is = ap (λ (vs : List Bool). chosen vs (drop place known)) (ap (drop place) is ∙ drop-map p place known) ∙ chosen_filter p (drop place known)
