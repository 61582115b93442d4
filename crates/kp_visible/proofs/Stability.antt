-- A batch below the last stable offset is of no open transaction.
use Rattle.std.proofs.Common.{◌≡◌, ℕ, ◌<◌, ◌≤◌, Bool, true, false, cond, eqb, leb, List, [], ◌∷◌, ◌++◌, Option, Some, None, refl, sym, ap, ◌∙◌, subst, arith, inl, inr}
use Rattle.std.specs.Prelude.{map, min, unwrap_or}
use Rattle.std.specs.List.{AllByRecursion, filter, reduce, fold}
use Rattle.std.specs.Option.{option_and_then}
use Rattle.std.proofs.lemmas.Bool.{cases_Bool, eqb-true, eq-eqb, leb-true, le-leb, and_parts}
use Rattle.kp_model.specs.Log.{Batch, below, next_offset}
use Rattle.kp_model.specs.Producers.{content_of, producer_of, is_of}
use Rattle.kp_batch.specs.Batch.{is_transactional}
use Rattle.kp_model.specs.Transactions.{Open, is_marker_of, is_transactional_of, is_some_number, open_of, open_in, opened_by, stable}
use Rattle.kp_visible.proofs.Lists.{all_filter_map, all_chosen, filter_split}
use Rattle.kp_visible.proofs.Places.{Apart, all_take, around}
use Rattle.kp_visible.proofs.Since.{opens_at}
use Rattle.kp_types.proofs.Elements.{all_weaker, all_filter}

-- ---- the least of some numbers

fold_within : (n high : ℕ) (ns : List ℕ) → n ≤ high → fold min n ns ≤ high
fold_within n high [] le = le
fold_within n high (m ∷ ns) le = fold_within (min n m) high ns (omega arith)

fold_least : (n : ℕ) (ns : List ℕ) → AllByRecursion (λ m. fold min n ns ≤ m) ns
fold_least n [] = tt
fold_least n (m ∷ ns) = (fold_within (min n m) m ns (omega arith), fold_least (min n m) ns)

least_of_all : (ns : List ℕ) (high : ℕ) → AllByRecursion (λ n. unwrap_or (reduce min ns) high ≤ n) ns
least_of_all [] high = tt
least_of_all (n ∷ ns) high = (fold_within n n ns (omega arith), fold_least n ns)

least_within : (ns : List ℕ) (high : ℕ) → AllByRecursion (λ n. n ≤ high) ns → unwrap_or (reduce min ns) high ≤ high
least_within [] high all = omega arith
least_within (n ∷ ns) high all = fold_within n high ns all.0

all_map : {X : Type 0} (f : X → ℕ) (P : ℕ → Type 0) (xs : List X) → AllByRecursion (λ x. P (f x)) xs → AllByRecursion P (map f xs)
all_map f P [] all = tt
all_map f P (x ∷ xs) all = (all.0, all_map f P xs all.1)

all_mapped : {X : Type 0} (f : X → ℕ) (P : ℕ → Type 0) (xs : List X) → AllByRecursion P (map f xs) → AllByRecursion (λ x. P (f x)) xs
all_mapped f P [] all = tt
all_mapped f P (x ∷ xs) all = (all.0, all_mapped f P xs all.1)

-- ---- what opens

first_is_base : (log : List Batch) (x : Batch) (o : Open) → opened_by log x ≡ Some o → o.first ≡ x.base
first_is_base log x o e = by_producer (producer_of (content_of x)) e
  where
    by_producer : (q : Option (ℕ × ℕ)) → option_and_then (λ p. cond (is_some_number x.base (open_of log p.0)) (Some (let y : Open = record { producer = p.0; first = x.base } in y)) None) q ≡ Some o → o.first ≡ x.base
    by_producer None is = absurd cc
    by_producer (Some p) is = elim (cases_Bool (is_some_number x.base (open_of log p.0))) [
      | inl t ↦
          let y : Open = record { producer = p.0; first = x.base } in
          let found : Some y ≡ Some o = rw t at is in
          let same : y ≡ o = cc in
          sym (ap (λ (z : Open). z.first) same)
      | inr f ↦ let none : None ≡ Some o = rw f at is in absurd cc
    ]

-- the batch with which a producer's open transaction begins
opens : (log : List Batch) (x : Batch) (producer : ℕ) → is_transactional_of producer x ≡ true → open_of log producer ≡ Some x.base
    → opened_by log x ≡ Some (record { producer = producer; first = x.base })
opens log x producer own opened = by_producer (producer_of (content_of x)) refl
  where
    of : is_of producer x ≡ true
    of = (and_parts (is_transactional (content_of x)) (is_of producer x) own).1

    by_producer : (q : Option (ℕ × ℕ)) → producer_of (content_of x) ≡ q → opened_by log x ≡ Some (record { producer = producer; first = x.base })
    by_producer None e = let none : false ≡ true = rw e at of in absurd cc
    by_producer (Some p) e =
        let same : p.0 ≡ producer = eqb-true p.0 producer (rw e at of) in
        let here : eqb x.base x.base ≡ true = eq-eqb x.base x.base refl in
        rw (e, same, opened, here) refl

-- ---- the last stable offset

pub stable_within : (log : List Batch) (high_watermark : ℕ) → Apart 0 log → stable log high_watermark ≤ high_watermark
unfolding stable open_in
stable_within log high_watermark apart =
    let known = below high_watermark log in
    let test : Batch → Bool = λ b. leb (next_offset b) high_watermark in
    let within : (x : Batch) → (x.base < next_offset x) × (test x ≡ true) → x.base ≤ high_watermark = λ x h. let takes = h.0 in let ends = leb-true (next_offset x) high_watermark h.1 in omega (arith, takes, ends) in
    let bases = all_weaker (λ x. (x.base < next_offset x) × (test x ≡ true)) (λ x. x.base ≤ high_watermark) within known (all_filter test (λ x. x.base < next_offset x) log (all_take 0 log apart)) in
    let firsts = all_filter_map (opened_by known) (λ x. x.base ≤ high_watermark) (λ o. o.first ≤ high_watermark)
    (λ x o le e. let at = first_is_base known x o e in omega (arith, at, le)) known bases in
    least_within (map (λ o. o.first) (open_in known)) high_watermark (all_map (λ o. o.first) (λ n. n ≤ high_watermark) (open_in known) firsts)

-- no open transaction begins below it
stable_least : (log : List Batch) (high_watermark : ℕ) → AllByRecursion (λ x. (o : Open) → opened_by (below high_watermark log) x ≡ Some o → stable log high_watermark ≤ o.first) (below high_watermark log)
unfolding stable open_in
stable_least log high_watermark =
    let known = below high_watermark log in
    all_chosen (opened_by known) (λ o. stable log high_watermark ≤ o.first) known
    (all_mapped (λ o. o.first) (λ n. stable log high_watermark ≤ n) (open_in known) (least_of_all (map (λ o. o.first) (open_in known)) high_watermark))

-- a transactional batch that no marker of its producer's follows holds the last stable offset back
pub stable_before : (front back : List Batch) (b : Batch) (producer high_watermark : ℕ) → Apart 0 (front ++ b ∷ back) → is_transactional_of producer b ≡ true
    → AllByRecursion (λ x. is_marker_of producer x ≡ false) (b ∷ back) → next_offset b ≤ high_watermark → stable (front ++ b ∷ back) high_watermark ≤ b.base
stable_before front back b producer high_watermark apart own none within =
    let log = front ++ b ∷ back in
    let test : Batch → Bool = λ x. leb (next_offset x) high_watermark in
    let parts : below high_watermark log ≡ filter test front ++ b ∷ filter test back = filter_split test front back b (le-leb (next_offset b) high_watermark within) in
    let P : Batch → Type 0 = λ x. (o : Open) → opened_by (below high_watermark log) x ≡ Some o → stable log high_watermark ≤ o.first in
    let at = around 0 front back b apart in
    let some = at.some in
    let earlier = all_weaker _ (λ x. x.base ≤ b.base) (λ x h. let takes = h.0.0 in let ends = h.0.1 in omega (arith, takes, ends)) (filter test front)
    (all_filter test (λ x. (x.base < next_offset x) × (next_offset x ≤ b.base)) front at.ends) in
    let unmarked = all_weaker _ (λ x. is_marker_of producer x ≡ false) (λ x h. h.0) (filter test back) (all_filter test (λ x. is_marker_of producer x ≡ false) back none.1) in
    let o = opens_at P producer (filter test front) (filter test back) b (subst (AllByRecursion P) parts (stable_least log high_watermark)) earlier own (none.0, unmarked) in
    let there : open_of (below high_watermark log) producer ≡ Some o.batch.base = ap (λ (l : List Batch). open_of l producer) parts ∙ o.opened in
    let opened : Open = record { producer = producer; first = o.batch.base } in
    let begins = o.holds opened (opens (below high_watermark log) o.batch producer o.own there) in
    let from = o.from in
    omega (arith, begins, from)
