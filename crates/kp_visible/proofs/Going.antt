-- A client that goes over the batches of an answer is left with what its entries don't drop.
use Rattle.std.proofs.Common.{◌≡◌, ℕ, Some, ◌<◌, ◌≤◌, ◌+◌, ◌&&◌, ◌||◌, Bool, true, false, cond, eqb, leb, ltb, List, [], ◌∷◌, ◌++◌, length, refl, sym, ap, ◌∙◌, subst, arith, append_assoc, inl, inr}
use Rattle.std.specs.Prelude.{map, not}
use Rattle.std.specs.List.{AllByRecursion, filter, list_any}
use Rattle.std.proofs.Math.Bool.{and-false, or-false, or-true}
use Rattle.std.proofs.lemmas.Bool.{cases_Bool, eqb-true, eq-eqb, false≢true, ne_eqb, le-leb, lt-leb, ltb-true, ltb-false, lt-ltb, le-ltb}
use Rattle.std.specs.List.Sorted.{IsPermutation}
use Rattle.std.proofs.lemmas.List.Elements.{All-from_recursion, filter_agree, recursion_from_All}
use Rattle.std.proofs.lemmas.List.Sorted.{All-permutation, IsPermutation-map}
use Rattle.std.proofs.lemmas.List.Folds.{list_any-append}
use Rattle.kp_batch.specs.Batch.{Content, Plain, Produced, Marker, contents}
use Rattle.kp_model.specs.Log.{Batch, IsLog, below, last_offset, next_offset}
use Rattle.kp_model.specs.Producers.{content_of, is_of}
use Rattle.kp_model.specs.Transactions.{Aborted, aborted_by, aborted_in, is_abort, open_of}
use Rattle.kp_model.specs.Visible.{is_visible}
use Rattle.kp_visible.specs.Client.{aborts_between, drops, end_after, gone_over, keeps_at, kept, named, noted_after, overlapping, overlaps, passes}
use Rattle.kp_visible.specs.Laws.{IsStablePiece}
use Rattle.kp_visible.proofs.Tests.{all_at, all_map, any_agree, any_either, any_filtered, any_mapped, each_agree, filter_twice, none_any}
use Rattle.kp_visible.proofs.Lists.{Splits, all_filter_map, all_splits}
use Rattle.kp_visible.proofs.Places.{Apart, IsApart, all_from, around, below_split, each_apart, log_apart}
use Rattle.kp_visible.proofs.Opening.{opening}
use Rattle.kp_visible.proofs.Entries.{entry_is}
use Rattle.kp_visible.proofs.Growing.{apart_front}
use Rattle.kp_visible.proofs.Clients.{clients_keep, kept_moved}
use Rattle.kp_types.proofs.Elements.{all_append, all_behind, all_front, all_kept, all_weaker}

-- ---- where the client stands

-- an abort marker of the producer's from the offset on
abbrev aborts_from : ℕ → ℕ → Batch → Bool
aborts_from producer first m = (is_abort (content_of m) && is_of producer m) && leb first m.base

-- the entry is the producer's, was taken below the offset, and none of the batches in front ended it
abbrev is_taken : List Batch → ℕ → ℕ → ℕ × ℕ → Bool
is_taken front low producer e = (eqb e.0 producer && ltb e.1 low) && not (list_any (aborts_from producer e.1) front)

record Went (entries : List (ℕ × ℕ)) (front : List Batch) (low : ℕ) (waiting : List (ℕ × ℕ)) (producers : List ℕ) : Type 0 where
  noted : (producer : ℕ) → list_any (λ p. eqb p producer) producers ≡ list_any (is_taken front low producer) entries
  waits : waiting ≡ filter (λ e. not (ltb e.1 low)) entries

same_last : (first : ℕ) (b : Batch) → b.base < next_offset b → leb first (last_offset b) ≡ ltb first (next_offset b)
same_last first b some = elim (cases_Bool (ltb first (next_offset b))) [
  | inl t ↦ let lt = ltb-true first (next_offset b) t in le-leb first (last_offset b) (omega (arith, lt)) ∙ sym t
  | inr f ↦ let ge = ltb-false first (next_offset b) f in lt-leb first (last_offset b) (omega (arith, ge, some)) ∙ sym f
]

-- ---- in front of a batch

taking : (front : List Batch) (low producer : ℕ) (b : Batch) → AllByRecursion (λ m. m.base < low) front → low ≤ b.base → b.base < next_offset b → (e : ℕ × ℕ)
    → ((not (ltb e.1 low) && (leb e.1 (last_offset b) && eqb e.0 producer)) || is_taken front low producer e) ≡ is_taken front (next_offset b) producer e
taking front low producer b lower from some e = elim (cases_Bool (ltb e.1 low)) [
  | inl t ↦
      let lt = ltb-true e.1 low t in
      let soon : ltb e.1 (next_offset b) ≡ true = lt-ltb e.1 (next_offset b) (omega (arith, lt, from, some)) in
      rw (t, soon) refl
  | inr f ↦
      let ge = ltb-false e.1 low f in
      let none : list_any (aborts_from producer e.1) front ≡ false = none_any (aborts_from producer e.1) front
      (all_weaker (λ m. m.base < low) (λ m. aborts_from producer e.1 m ≡ false) (λ m lt.
      let high : leb e.1 m.base ≡ false = lt-leb e.1 m.base (omega (arith, lt, ge)) in
      rw high (and-false (is_abort (content_of m) && is_of producer m))) front lower) in
      rw (f, none, same_last e.1 b some) (by_tests (ltb e.1 (next_offset b)) (eqb e.0 producer))
]
  where
    by_tests : (soon own : Bool) → ((soon && own) || ((own && false) && true)) ≡ ((own && soon) && true)
    by_tests true true = refl
    by_tests true false = refl
    by_tests false true = refl
    by_tests false false = refl

-- the producers that are noted when it comes to the batch
abbrev noted_at : List (ℕ × ℕ) → List ℕ → Batch → List ℕ
noted_at waiting producers b = map (λ e. e.0) (filter (λ e. leb e.1 (last_offset b)) waiting) ++ producers

noted_is : (entries : List (ℕ × ℕ)) (front : List Batch) (low : ℕ) (waiting : List (ℕ × ℕ)) (producers : List ℕ) (b : Batch) → AllByRecursion (λ m. m.base < low) front
    → low ≤ b.base → b.base < next_offset b → Went entries front low waiting producers
    → (producer : ℕ) → list_any (λ p. eqb p producer) (noted_at waiting producers b) ≡ list_any (is_taken front (next_offset b) producer) entries
noted_is entries front low waiting producers b lower from some w producer =
    let own : ℕ → Bool = λ p. eqb p producer in
    let soon : ℕ × ℕ → Bool = λ e. leb e.1 (last_offset b) in
    let late : ℕ × ℕ → Bool = λ e. not (ltb e.1 low) in
    let begun : list_any own (map (λ e. e.0) (filter soon waiting)) ≡ list_any (λ e. late e && (soon e && own e.0)) entries =
    any_mapped own (λ e. e.0) (filter soon waiting) ∙ any_filtered (λ e. own e.0) soon waiting
    ∙ ap (list_any (λ e. soon e && own e.0)) w.waits ∙ any_filtered (λ e. soon e && own e.0) late entries in
    list_any-append own (map (λ e. e.0) (filter soon waiting)) producers
    ∙ ap (λ (x : Bool). x || list_any own producers) begun
    ∙ ap (λ (x : Bool). list_any (λ e. late e && (soon e && own e.0)) entries || x) (w.noted producer)
    ∙ any_either (λ e. late e && (soon e && own e.0)) (is_taken front low producer) entries
    ∙ each_agree (λ e. (late e && (soon e && own e.0)) || is_taken front low producer e) (is_taken front (next_offset b) producer) (taking front low producer b lower from some) entries

waits_is : (entries waiting : List (ℕ × ℕ)) (low : ℕ) (b : Batch) → low ≤ b.base → b.base < next_offset b → waiting ≡ filter (λ e. not (ltb e.1 low)) entries
    → filter (λ e. not (leb e.1 (last_offset b))) waiting ≡ filter (λ e. not (ltb e.1 (next_offset b))) entries
waits_is entries waiting low b from some waits =
    ap (filter (λ (e : ℕ × ℕ). not (leb e.1 (last_offset b)))) waits
    ∙ filter_twice (λ e. not (leb e.1 (last_offset b))) (λ e. not (ltb e.1 low)) entries
    ∙ filter_agree (λ e. not (ltb e.1 low) && not (leb e.1 (last_offset b))) (λ e. not (ltb e.1 (next_offset b))) same entries
  where
    same : (e : ℕ × ℕ) → (not (ltb e.1 low) && not (leb e.1 (last_offset b))) ≡ not (ltb e.1 (next_offset b))
    same e = elim (cases_Bool (ltb e.1 low)) [
      | inl t ↦
          let lt = ltb-true e.1 low t in
          let soon : ltb e.1 (next_offset b) ≡ true = lt-ltb e.1 (next_offset b) (omega (arith, lt, from, some)) in
          rw (t, soon) refl
      | inr f ↦ rw (f, same_last e.1 b some) refl
    ]

-- ---- behind it

-- a batch that is no abort marker of the producer's ends nothing of it
one_more : (front : List Batch) (b : Batch) (producer first : ℕ) → (is_abort (content_of b) && is_of producer b) ≡ false → list_any (aborts_from producer first) (front ++ b ∷ []) ≡ list_any (aborts_from producer first) front
one_more front b producer first other =
    let none : aborts_from producer first b ≡ false = rw other refl in
    list_any-append (aborts_from producer first) front (b ∷ []) ∙ rw none (or-false (list_any (aborts_from producer first) front))

taken_same : (entries : List (ℕ × ℕ)) (front : List Batch) (b : Batch) (low producer : ℕ) → (is_abort (content_of b) && is_of producer b) ≡ false
    → list_any (is_taken front low producer) entries ≡ list_any (is_taken (front ++ b ∷ []) low producer) entries
taken_same entries front b low producer other =
    each_agree (is_taken front low producer) (is_taken (front ++ b ∷ []) low producer)
    (λ e. ap (λ (x : Bool). (eqb e.0 producer && ltb e.1 low) && not x) (sym (one_more front b producer e.1 other))) entries

-- an abort marker ends all of it
taken_none : (entries : List (ℕ × ℕ)) (front : List Batch) (b : Batch) (producer : ℕ) → is_abort (content_of b) ≡ true → is_of producer b ≡ true → next_offset b ≡ b.base + 1
    → list_any (is_taken (front ++ b ∷ []) (next_offset b) producer) entries ≡ false
taken_none entries front b producer aborts own width_is = each_agree (is_taken (front ++ b ∷ []) (next_offset b) producer) (λ e. false) out entries ∙ nothing entries
  where
    nothing : (es : List (ℕ × ℕ)) → list_any (λ e. false) es ≡ false
    nothing [] = refl
    nothing (e ∷ es) = nothing es

    out : (e : ℕ × ℕ) → is_taken (front ++ b ∷ []) (next_offset b) producer e ≡ false
    out e = elim (cases_Bool (ltb e.1 (next_offset b))) [
      | inl t ↦
          let lt = ltb-true e.1 (next_offset b) t in
          let low : leb e.1 b.base ≡ true = le-leb e.1 b.base (omega (arith, lt, width_is)) in
          let here : aborts_from producer e.1 b ≡ true = rw (aborts, own, low) refl in
          let ended : list_any (aborts_from producer e.1) (front ++ b ∷ []) ≡ true =
          list_any-append (aborts_from producer e.1) front (b ∷ []) ∙ rw here (or-true (list_any (aborts_from producer e.1) front)) in
          rw ended (and-false (eqb e.0 producer && ltb e.1 (next_offset b)))
      | inr f ↦ rw f (ap (λ (x : Bool). x && not (list_any (aborts_from producer e.1) (front ++ b ∷ []))) (and-false (eqb e.0 producer)))
    ]

taken_out : (q producer : ℕ) (ns : List ℕ) → q ≡ producer → list_any (λ p. not (eqb p q) && eqb p producer) ns ≡ false
taken_out q producer [] same = refl
taken_out q producer (p ∷ ns) same = elim (cases_Bool (eqb p q)) [
  | inl t ↦ rw t (taken_out q producer ns same)
  | inr f ↦ let other : eqb p producer ≡ false = subst (λ (n : ℕ). eqb p n ≡ false) same f in rw (f, other) (taken_out q producer ns same)
]

not_taken_out : (q producer : ℕ) → eqb q producer ≡ false → (p : ℕ) → (not (eqb p q) && eqb p producer) ≡ eqb p producer
not_taken_out q producer other p = elim (cases_Bool (eqb p producer)) [
  | inl t ↦
      let same = eqb-true p producer t in
      let apart : eqb p q ≡ false = ne_eqb p q (λ e. false≢true (sym other ∙ eq-eqb q producer (sym e ∙ same))) in
      rw (t, apart) refl
  | inr f ↦ rw f (and-false (not (eqb p q)))
]

-- the producers that are noted behind the batch
noted_behind : (entries : List (ℕ × ℕ)) (front : List Batch) (b : Batch) (noted : List ℕ)
    → ((producer : ℕ) → list_any (λ p. eqb p producer) noted ≡ list_any (is_taken front (next_offset b) producer) entries)
    → (producer : ℕ) → list_any (λ p. eqb p producer) (noted_after (content_of b) noted) ≡ list_any (is_taken (front ++ b ∷ []) (next_offset b) producer) entries
noted_behind entries front b noted known producer = by_content (content_of b) refl
  where
    by_content : (content : Content) → content_of b ≡ content → list_any (λ p. eqb p producer) (noted_after content noted) ≡ list_any (is_taken (front ++ b ∷ []) (next_offset b) producer) entries
    by_content (Plain records) is = known producer ∙ taken_same entries front b (next_offset b) producer (rw is refl)
    by_content (Produced q epoch sequence transactional records) is = known producer ∙ taken_same entries front b (next_offset b) producer (rw is refl)
    by_content (Marker q epoch coordinator true) is = known producer ∙ taken_same entries front b (next_offset b) producer (rw is refl)
    by_content (Marker q epoch coordinator false) is = any_filtered (λ p. eqb p producer) (λ p. not (eqb p q)) noted ∙ elim (cases_Bool (eqb q producer)) [
      | inl own ↦
          taken_out q producer noted (eqb-true q producer own)
          ∙ sym (taken_none entries front b producer (rw is refl) (rw is own) (ap (λ (c : Content). b.base + length (contents b.body.base_time c)) is))
      | inr other ↦
          each_agree (λ p. not (eqb p q) && eqb p producer) (λ p. eqb p producer) (not_taken_out q producer other) noted ∙ known producer
          ∙ taken_same entries front b (next_offset b) producer (rw is other)
    ]

-- ---- whether the batch passes

-- no entry begins inside the batch
abbrev pub Fits : List (ℕ × ℕ) → Batch → Type 0
Fits entries b = AllByRecursion (λ e. ltb e.1 (next_offset b) ≡ leb e.1 b.base) entries

dropping_same : (front back : List Batch) (b : Batch) (producer : ℕ) → AllByRecursion (λ m. m.base < b.base) front → AllByRecursion (λ m. b.base ≤ m.base) (b ∷ back) → (e : ℕ × ℕ)
    → ltb e.1 (next_offset b) ≡ leb e.1 b.base → is_taken front (next_offset b) producer e ≡ drops (front ++ b ∷ back) producer b.base e
dropping_same front back b producer lower higher e fits =
    ap (λ (x : Bool). (eqb e.0 producer && x) && not (list_any (aborts_from producer e.1) front)) fits
    ∙ ap (λ (x : Bool). (eqb e.0 producer && leb e.1 b.base) && not x) same
  where
    by_tests : (x y z : Bool) → z ≡ true → (x && y) ≡ (x && (y && z))
    by_tests x true z is = rw is refl
    by_tests x false z is = refl

    near : (m : Batch) → m.base < b.base → aborts_from producer e.1 m ≡ aborts_between producer e.1 b.base m
    near m lt =
        let low : ltb m.base b.base ≡ true = lt-ltb m.base b.base lt in
        by_tests (is_abort (content_of m) && is_of producer m) (leb e.1 m.base) (ltb m.base b.base) low

    far : (m : Batch) → b.base ≤ m.base → aborts_between producer e.1 b.base m ≡ false
    far m ge =
        let high : ltb m.base b.base ≡ false = le-ltb m.base b.base ge in
        rw high (ap (λ (x : Bool). (is_abort (content_of m) && is_of producer m) && x) (and-false (leb e.1 m.base)) ∙ and-false (is_abort (content_of m) && is_of producer m))

    same : list_any (aborts_from producer e.1) front ≡ list_any (aborts_between producer e.1 b.base) (front ++ b ∷ back)
    same =
        any_agree (aborts_from producer e.1) (aborts_between producer e.1 b.base) front
        (all_weaker (λ m. m.base < b.base) (λ m. aborts_from producer e.1 m ≡ aborts_between producer e.1 b.base m) near front lower)
        ∙ sym (list_any-append (aborts_between producer e.1 b.base) front (b ∷ back)
        ∙ ap (λ (x : Bool). list_any (aborts_between producer e.1 b.base) front || x)
        (none_any (aborts_between producer e.1 b.base) (b ∷ back) (all_weaker (λ m. b.base ≤ m.base) (λ m. aborts_between producer e.1 b.base m ≡ false) far (b ∷ back) higher))
        ∙ or-false (list_any (aborts_between producer e.1 b.base) front))

passes_is : (entries : List (ℕ × ℕ)) (front back : List Batch) (b : Batch) (noted : List ℕ) → AllByRecursion (λ m. m.base < b.base) front → AllByRecursion (λ m. b.base ≤ m.base) (b ∷ back)
    → Fits entries b → ((producer : ℕ) → list_any (λ p. eqb p producer) noted ≡ list_any (is_taken front (next_offset b) producer) entries)
    → (content : Content) → passes content noted ≡ keeps_at entries (front ++ b ∷ back) b.base content
passes_is entries front back b noted lower higher fits known (Plain records) = refl
passes_is entries front back b noted lower higher fits known (Produced producer epoch sequence transactional records) =
    ap (λ (x : Bool). not (transactional && x))
    (known producer ∙ any_agree (is_taken front (next_offset b) producer) (drops (front ++ b ∷ back) producer b.base) entries
    (all_weaker (λ e. ltb e.1 (next_offset b) ≡ leb e.1 b.base) (λ e. is_taken front (next_offset b) producer e ≡ drops (front ++ b ∷ back) producer b.base e)
    (dropping_same front back b producer lower higher) entries fits))
passes_is entries front back b noted lower higher fits known (Marker producer epoch coordinator commit) = refl

-- ---- all batches

goes : (entries : List (ℕ × ℕ)) (batches front back : List Batch) (low : ℕ) (waiting : List (ℕ × ℕ)) (producers : List ℕ) → batches ≡ front ++ back
    → Apart low back → AllByRecursion (λ m. m.base < low) front → AllByRecursion (Fits entries) back → Went entries front low waiting producers
    → gone_over waiting producers back ≡ filter (λ b. keeps_at entries batches b.base (content_of b)) back
goes entries batches front [] low waiting producers parts apart lower fits w = refl
goes entries batches front (b ∷ back) low waiting producers parts apart lower fits w =
    let from = apart.0 in
    let some = apart.1 in
    let noted = noted_at waiting producers b in
    let left = filter (λ (e : ℕ × ℕ). not (leb e.1 (last_offset b))) waiting in
    let known = noted_is entries front low waiting producers b lower from some w in
    let before = all_weaker (λ m. m.base < low) (λ m. m.base < b.base) (λ m lt. omega (arith, lt, from)) front lower in
    let behind = all_weaker (λ m. next_offset b ≤ m.base) (λ m. b.base ≤ m.base) (λ m le. omega (arith, le, some)) back (all_from (next_offset b) back apart.2) in
    let all : AllByRecursion (λ m. b.base ≤ m.base) (b ∷ back) = (omega arith, behind) in
    let here : passes (content_of b) noted ≡ keeps_at entries batches b.base (content_of b) =
    passes_is entries front back b noted before all fits.0 known (content_of b) ∙ ap (λ (l : List Batch). keeps_at entries l b.base (content_of b)) (sym parts) in
    let next : Went entries (front ++ b ∷ []) (next_offset b) left (noted_after (content_of b) noted) =
    record { noted = noted_behind entries front b noted known; waits = waits_is entries waiting low b from some w.waits } in
    let further = all_append (λ m. m.base < next_offset b) front (b ∷ []) (all_weaker (λ m. m.base < b.base) (λ m. m.base < next_offset b) (λ m lt. omega (arith, lt, some)) front before) (some, tt) in
    let rest = goes entries batches (front ++ b ∷ []) back (next_offset b) left (noted_after (content_of b) noted) (parts ∙ sym (append_assoc front (b ∷ []) back)) apart.2 further fits.1 next in
    ap (λ (x : Bool). cond x (b ∷ gone_over left (noted_after (content_of b) noted) back) (gone_over left (noted_after (content_of b) noted) back)) here
    ∙ ap (λ (l : List Batch). cond (keeps_at entries batches b.base (content_of b)) (b ∷ l) l) rest

apart_zero : (low : ℕ) (bs : List Batch) → Apart low bs → Apart 0 bs
apart_zero low [] apart = tt
apart_zero low (b ∷ bs) apart = (omega arith, apart.1, apart.2)

apart_behind : (low : ℕ) (xs ys : List Batch) → Apart low (xs ++ ys) → Apart 0 ys
apart_behind low [] ys apart = apart_zero low ys apart
apart_behind low (x ∷ xs) ys apart = apart_behind (next_offset x) xs ys apart.2

none_taken : (producer : ℕ) (entries : List (ℕ × ℕ)) → list_any (is_taken [] 0 producer) entries ≡ false
none_taken producer [] = refl
none_taken producer (e ∷ entries) =
    let early : ltb e.1 0 ≡ false = le-ltb e.1 0 (omega arith) in
    rw early (ap (λ (x : Bool). (x && true) || list_any (is_taken [] 0 producer) entries) (and-false (eqb e.0 producer)) ∙ none_taken producer entries)

all_wait : (entries : List (ℕ × ℕ)) → filter (λ e. not (ltb e.1 0)) entries ≡ entries
all_wait [] = refl
all_wait (e ∷ entries) =
    let early : ltb e.1 0 ≡ false = le-ltb e.1 0 (omega arith) in
    rw early (ap (λ (l : List (ℕ × ℕ)). e ∷ l) (all_wait entries))

-- where no entry begins inside a batch it is left with the same
pub gone_is : (entries : List (ℕ × ℕ)) (batches : List Batch) (low : ℕ) → Apart low batches → AllByRecursion (Fits entries) batches → gone_over entries [] batches ≡ kept entries batches
gone_is entries batches low apart fits =
    goes entries batches [] batches 0 entries [] refl (apart_zero low batches apart) tt fits
    (record { noted = λ producer. sym (none_taken producer entries); waits = sym (all_wait entries) })

-- ---- the entries of a log

-- a transaction doesn't begin inside a batch
entry_fits : (log : List Batch) (b : Batch) → Apart 0 log → Splits log b → (x : Batch) (a : Aborted) → Splits log x → aborted_by log x ≡ Some a → ltb a.first (next_offset b) ≡ leb a.first b.base
entry_fits log b apart here x a s e =
    let i = entry_is log x a e in
    let at = around 0 s.front s.back x (subst (Apart 0) s.is apart) in
    let in_front : below x.base log ≡ s.front = ap (below x.base) s.is ∙ below_split s.front s.back x at in
    let o = opening s.front a.producer a.first (ap (λ (l : List Batch). open_of l a.producer) (sym in_front) ∙ i.opened) in
    let begins = o.begins in
    let takes = (all_at (λ y. (y.base < next_offset y) × (next_offset y ≤ x.base)) s.front o.batch (record { front = o.front; back = o.back; is = o.is }) at.ends).0 in
    let those = all_front (IsApart b) s.front (x ∷ s.back) (subst (AllByRecursion (IsApart b)) s.is (each_apart log b apart here)) in
    let there = around 0 here.front here.back b (subst (Apart 0) here.is apart) in
    let some = there.some in
    elim (all_at (IsApart b) s.front o.batch (record { front = o.front; back = o.back; is = o.is }) those) [
      | inl same ↦
          let base : o.batch.base ≡ b.base = ap (λ (y : Batch). y.base) same in
          lt-ltb a.first (next_offset b) (omega (arith, begins, base, some)) ∙ sym (le-leb a.first b.base (omega (arith, begins, base)))
      | inr (inl front_of) ↦ lt-ltb a.first (next_offset b) (omega (arith, begins, takes, front_of, some)) ∙ sym (le-leb a.first b.base (omega (arith, begins, takes, front_of)))
      | inr (inr back_of) ↦ le-ltb a.first (next_offset b) (omega (arith, begins, back_of)) ∙ sym (lt-leb a.first b.base (omega (arith, begins, back_of, some)))
    ]

overlapping_kept : (P : Aborted → Type 0) (batches : List Batch) (aborted : List Aborted) → AllByRecursion P aborted → AllByRecursion P (overlapping batches aborted)
overlapping_kept P [] aborted all = tt
overlapping_kept P (b ∷ bs) aborted all = all_kept P (overlaps b.base (end_after (next_offset b) bs)) aborted all

entries_fit : (log batches : List Batch) (b : Batch) → Apart 0 log → Splits log b → Fits (map named (overlapping batches (aborted_in log))) b
unfolding aborted_in
entries_fit log batches b apart here =
    all_map named (λ e. ltb e.1 (next_offset b) ≡ leb e.1 b.base) (overlapping batches (aborted_in log))
    (overlapping_kept (λ a. ltb a.first (next_offset b) ≡ leb a.first b.base) batches (aborted_in log)
    (all_filter_map (aborted_by log) (Splits log) (λ a. ltb a.first (next_offset b) ≡ leb a.first b.base) (entry_fits log b apart here) log (all_splits log)))

fits_moved : (one other : List Aborted) (b : Batch) → IsPermutation one other → Fits (map named one) b → Fits (map named other) b
fits_moved one other b moved fits =
    let P : ℕ × ℕ → Type 0 = λ e. ltb e.1 (next_offset b) ≡ leb e.1 b.base in
    recursion_from_All P (map named other)
    (All-permutation P (map named one) (map named other) (IsPermutation-map named one other moved) (All-from_recursion P (map named one) fits))

-- in whatever order the entries are named
pub clients_go_over : (log batches : List Batch) (high_watermark : ℕ) (entries : List Aborted) → IsLog log → IsStablePiece batches log high_watermark
    → IsPermutation (overlapping batches (aborted_in log)) entries → gone_over (map named entries) [] batches ≡ filter (is_visible log) batches
clients_go_over log batches high_watermark entries lawful piece moved =
    let apart = log_apart log lawful in
    let parts : log ≡ piece.front ++ (batches ++ piece.rest) = piece.is ∙ append_assoc piece.front batches piece.rest in
    let low = apart_behind 0 piece.front (batches ++ piece.rest) (subst (Apart 0) parts apart) in
    let those = all_front (Splits log) batches piece.rest (all_behind (Splits log) piece.front (batches ++ piece.rest) (subst (AllByRecursion (Splits log)) parts (all_splits log))) in
    let fits = all_weaker (Splits log) (Fits (map named entries)) (λ b s. fits_moved (overlapping batches (aborted_in log)) entries b moved (entries_fit log batches b apart s)) batches those in
    gone_is (map named entries) batches 0 (apart_front 0 batches piece.rest low) fits
    ∙ kept_moved (overlapping batches (aborted_in log)) entries batches moved
    ∙ clients_keep log batches high_watermark lawful piece
