-- What a list of aborted transactions that rises hides at an offset stands behind those that end at it or below it.
use Rattle.std.proofs.Common.{◌≡◌, ℕ, zero, suc, ◌≤◌, ◌+◌, ◌-◌, ◌&&◌, Bool, true, false, cond, leb, ltb, List, [], ◌∷◌, length, get_or, take, drop, Option, Some, None, refl, sym, ap, ◌∙◌, subst, arith, inl, inr}
use Rattle.std.specs.Prelude.{not, slice_get}
use Rattle.std.specs.List.{AllByRecursion, AllWithin, cons_option, filter, filter_map, find}
use Rattle.std.specs.List.Sorted.{IsNonDecreasingBy}
use Rattle.std.specs.Option.{option_map_or}
use Rattle.std.proofs.lemmas.Bool.{cases_Bool, leb-true, le-leb, le-ltb, ltb-true, ltb-false}
use Rattle.std.proofs.lemmas.List.{get_or-drop, length-drop, take-append-drop}
use Rattle.std.proofs.lemmas.List.Sums.{prefix_len-le-length, prefix_len_passes}
use Rattle.std.proofs.lemmas.Option.{get_or_from_slice_get, slice_get_cases}
use Rattle.kp_batch.specs.Batch.{Content, Plain, Produced, Marker}
use Rattle.kp_model.specs.Log.{Batch, IsLog, next_offset}
use Rattle.kp_model.specs.Producers.{content_of}
use Rattle.kp_model.specs.Transactions.{Aborted, aborted_by, aborted_in}
use Rattle.kp_visible.specs.Filter.{covers, decides, ends_above, hides, shows, shows_at}
use Rattle.kp_visible.specs.Near.{back_from, ended_by, place_from, shown_from}
use Rattle.kp_visible.proofs.Lists.{find_behind}
use Rattle.kp_visible.proofs.Places.{Apart, log_apart}
use Rattle.kp_visible.proofs.Rising.{Rises, rises_lower, rises_sorted}
use Rattle.kp_visible.proofs.Entries.{entry_is}
use Rattle.kp_types.proofs.Elements.{all_weaker, none_found}

-- ---- the list is cut

pub all_taken : {X : Type 0} (P : X → Type 0) (xs : List X) (n : ℕ) → AllWithin P xs 0 n → AllByRecursion P (take n xs)
all_taken P xs zero h = tt
all_taken P [] (suc n) h = tt
all_taken P (x ∷ xs) (suc n) h = (h 0 x (omega arith) (omega arith), all_taken P xs n (λ k d from upto. h (suc k) d (omega arith) (omega arith)))

pub cut_hides : (list : List Aborted) (offset start producer : ℕ) → AllWithin (λ a. leb a.marker offset ≡ true) list 0 start → hides (drop start list) producer offset ≡ hides list producer offset
cut_hides list offset start producer cut =
    let below : (a : Aborted) → leb a.marker offset ≡ true → decides producer offset a ≡ false = λ a e.
    let no : ltb offset a.marker ≡ false = le-ltb offset a.marker (leb-true a.marker offset e) in
    rw no refl in
    let none = none_found (decides producer offset) (take start list) (all_weaker _ (λ a. decides producer offset a ≡ false) below (take start list) (all_taken (λ a. leb a.marker offset ≡ true) list start cut)) in
    let found : find (decides producer offset) (drop start list) ≡ find (decides producer offset) list =
    sym (find_behind (decides producer offset) (take start list) (drop start list) none) ∙ ap (find (decides producer offset)) (take-append-drop start list) in
    ap (λ (o : Option Aborted). option_map_or (covers producer offset) o false) found

-- the same of what is shown
pub shows_same : (near list : List Aborted) (b : Batch) → ((producer : ℕ) → hides near producer b.base ≡ hides list producer b.base) → shows near b ≡ shows list b
shows_same near list b same = go (content_of b)
  where
    go : (content : Content) → shows_at near b.base content ≡ shows_at list b.base content
    go (Plain records) = refl
    go (Produced producer epoch sequence transactional records) = ap (λ (hidden : Bool). not (transactional && hidden)) (same producer)
    go (Marker producer epoch coordinator commit) = refl

-- ---- the place

back_within : (list : List Aborted) (offset place : ℕ) → back_from list offset place ≤ place
back_within list offset zero = omega arith
back_within list offset (suc place) = elim (cases_Bool (option_map_or (ends_above offset) (slice_get list place) false)) [
  | inl t ↦ let rest = back_within list offset place in rw t (omega (arith, rest))
  | inr f ↦ rw f (omega arith)
]

pub place_within : (list : List Aborted) (offset place : ℕ) → place ≤ length list → place_from list offset place ≤ length list
place_within list offset place within =
    let start = back_from list offset place in
    let back = back_within list offset place in
    let on = prefix_len-le-length (ended_by offset) (drop start list) in
    let left : length (drop start list) ≡ length list - start = length-drop start list in
    omega (arith, within, back, on, left)

-- in front of the place that the way back leads to, each ended by the offset
back_ended : (list : List Aborted) (offset place : ℕ) → IsNonDecreasingBy (λ a. a.marker) list → place ≤ length list → AllWithin (λ a. leb a.marker offset ≡ true) list 0 (back_from list offset place)
back_ended list offset zero rises within = λ k d from upto. absurd (omega (arith, upto))
back_ended list offset (suc place) rises within = elim (slice_get_cases list place).1 [
  | inl (here, lt, e, is) ↦ elim (cases_Bool (ltb offset here.marker)) [
    | inl t ↦ rw (e, t) (back_ended list offset place rises (omega arith))
    | inr f ↦ rw (e, f) (λ k d from upto.
        let low = ltb-false offset here.marker f in
        let sorted = rises k place d (omega (arith, upto)) lt in
        let at : get_or list place d ≡ here = get_or_from_slice_get list place here d e in
        let marker : (get_or list place d).marker ≡ here.marker = ap (λ (a : Aborted). a.marker) at in
        le-leb (get_or list k d).marker offset (omega (arith, low, sorted, marker)))
  ]
  | inr (past, e) ↦ absurd (omega (arith, past, within))
]

-- and so in front of the place that the way on from there leads to
place_ended : (list : List Aborted) (offset place : ℕ) → IsNonDecreasingBy (λ a. a.marker) list → place ≤ length list → AllWithin (λ a. leb a.marker offset ≡ true) list 0 (place_from list offset place)
place_ended list offset place rises within = λ k d from upto.
    let start = back_from list offset place in
    elim (cases_Bool (ltb k start)) [
      | inl t ↦ back_ended list offset place rises within k d from (ltb-true k start t)
      | inr f ↦
          let high = ltb-false k start f in
          let at : start + (k - start) ≡ k = omega (arith, high) in
          let passes = prefix_len_passes (ended_by offset) (drop start list) (k - start) d (omega (arith, high, upto)) in
          subst (λ (a : Aborted). leb a.marker offset ≡ true) (get_or-drop start list (k - start) d ∙ ap (λ (n : ℕ). get_or list n d) at) passes
    ]

-- of a list that rises, a batch is shown by what stands from its place on as by the whole list
pub shown_near : (list : List Aborted) (place : ℕ) (b : Batch) → IsNonDecreasingBy (λ a. a.marker) list → place ≤ length list → shows (drop (place_from list b.base place) list) b ≡ shows list b
shown_near list place b rises within =
    let next = place_from list b.base place in
    shows_same (drop next list) list b (λ producer. cut_hides list b.base next producer (place_ended list b.base place rises within))

-- so the batches are shown that the whole list shows
pub shown_whole : (list : List Aborted) (place : ℕ) (batches : List Batch) → IsNonDecreasingBy (λ a. a.marker) list → place ≤ length list
    → shown_from list place batches ≡ filter (shows list) batches
shown_whole list place [] rises within = refl
shown_whole list place (b ∷ batches) rises within =
    let next = place_from list b.base place in
    ap (λ (shown : Bool). cond shown (b ∷ shown_from list next batches) (shown_from list next batches)) (shown_near list place b rises within)
    ∙ ap (λ (l : List Batch). cond (shows list b) (b ∷ l) l) (shown_whole list next batches rises (place_within list b.base place within))

-- ---- a log's list rises

markers_rise : (log : List Batch) (low : ℕ) (bs : List Batch) → Apart low bs → Rises (λ a. a.marker) low (filter_map (aborted_by log) bs)
markers_rise log low [] h = tt
markers_rise log low (b ∷ bs) h = by_entry (markers_rise log (next_offset b) bs h.2) (aborted_by log b) refl
  where
    by_entry : Rises (λ a. a.marker) (next_offset b) (filter_map (aborted_by log) bs) → (o : Option Aborted) → aborted_by log b ≡ o → Rises (λ a. a.marker) low (cons_option o (filter_map (aborted_by log) bs))
    by_entry rest None e =
        let from = h.0 in
        let some = h.1 in
        rises_lower (λ a. a.marker) low (next_offset b) (filter_map (aborted_by log) bs) (omega (arith, from, some)) rest
    by_entry rest (Some a) e =
        let from = h.0 in
        let some = h.1 in
        let at = (entry_is log b a e).marker in
        (omega (arith, from, at), rises_lower (λ a. a.marker) (a.marker + 1) (next_offset b) (filter_map (aborted_by log) bs) (omega (arith, some, at)) rest)

pub aborted_rise : (log : List Batch) → IsLog log → IsNonDecreasingBy (λ a. a.marker) (aborted_in log)
unfolding aborted_in
aborted_rise log lawful = rises_sorted (λ a. a.marker) 0 (filter_map (aborted_by log) log) (markers_rise log 0 log (log_apart log lawful))
