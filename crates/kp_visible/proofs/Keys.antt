-- The keys of a list of aborted transactions, in order: where the first of a producer's stands.
use Rattle.std.proofs.Common.{◌≡◌, ℕ, zero, suc, ◌+◌, ◌-◌, ◌<◌, ◌≤◌, ◌&&◌, ◌||◌, ◌⊎◌, Bool, true, false, cond, eqb, ltb, List, [], ◌∷◌, length, get_or, refl, sym, ap, ◌∙◌, arith, inl, inr}
use Rattle.std.specs.Prelude.{map}
use Rattle.std.specs.List.{All, AllWithin, HoldsAt, enumerate_from, list_any}
use Rattle.std.specs.List.Sorted.{IsPartitionedBy, IsPermutation, IsSorted}
use Rattle.std.specs.declared.cmp.Ordering.TheVariants.{Less, Equal, Greater}
use Rattle.std.specs.Ordering.{is_lt, ordering_then}
use Rattle.std.specs.Cmp.{IsTotalOrder}
use Rattle.std.proofs.lemmas.Bool.{and_parts, cases_Bool, eq-eqb, eqb-true, ltb-true, ltb-false, lt-ltb}
use Rattle.std.proofs.lemmas.Cmp.{nat_cmp_total, on_total, then_total}
use Rattle.std.proofs.lemmas.List.{get_or_default}
use Rattle.std.proofs.lemmas.List.Folds.{Any-from_list_any}
use Rattle.std.proofs.lemmas.List.Sorted.{All-permutation, list_any-IsPermutation, ranks_by, sorted_far}
use Rattle.kp_model.specs.Transactions.{Aborted}
use Rattle.kp_visible.specs.Searched.{AreKeysOf, ArePartedAt, HaveKeys, IsFirstFrom, is_own, key_cmp}

-- ---- which of two keys comes first

abbrev pub is_less : ℕ × ℕ → ℕ × ℕ → Bool
is_less one other = is_lt (key_cmp one other)

less_is : (one other : ℕ × ℕ) → is_less one other ≡ (ltb one.0 other.0 || (eqb one.0 other.0 && ltb one.1 other.1))
less_is one other = by_tests (ltb one.0 other.0) (eqb one.0 other.0) (ltb one.1 other.1) (eqb one.1 other.1)
  where
    by_tests : (below same low tied : Bool) → is_lt (ordering_then (cond below Less (cond same Equal Greater)) (cond low Less (cond tied Equal Greater))) ≡ (below || (same && low))
    by_tests true same low tied = refl
    by_tests false true true tied = refl
    by_tests false true false true = refl
    by_tests false true false false = refl
    by_tests false false low tied = refl

less_true : (one other : ℕ × ℕ) → is_less one other ≡ true → (one.0 < other.0) ⊎ ((one.0 ≡ other.0) × (one.1 < other.1))
less_true one other e = elim (cases_Bool (ltb one.0 other.0)) [
  | inl t ↦ inl (ltb-true one.0 other.0 t)
  | inr f ↦
      let both : (eqb one.0 other.0 && ltb one.1 other.1) ≡ true = rw f at (sym (less_is one other) ∙ e) in
      let parts = and_parts (eqb one.0 other.0) (ltb one.1 other.1) both in
      inr (eqb-true one.0 other.0 parts.0, ltb-true one.1 other.1 parts.1)
]

less_from : (one other : ℕ × ℕ) → (one.0 < other.0) ⊎ ((one.0 ≡ other.0) × (one.1 < other.1)) → is_less one other ≡ true
less_from one other (inl below) = less_is one other ∙ rw (lt-ltb one.0 other.0 below) refl
less_from one other (inr both) = less_is one other ∙ rw (eq-eqb one.0 other.0 both.0, lt-ltb one.1 other.1 both.1) (or_true (ltb one.0 other.0))
  where
    or_true : (b : Bool) → (b || true) ≡ true
    or_true true = refl
    or_true false = refl

-- one that isn't less: its producer is no lower, nor its place at the same producer
not_less : (one other : ℕ × ℕ) → is_less one other ≡ false → (other.0 ≤ one.0) × (one.0 ≡ other.0 → other.1 ≤ one.1)
not_less one other e = elim (cases_Bool (ltb one.0 other.0)) [
  | inl t ↦ let bad : true ≡ false = sym (less_from one other (inl (ltb-true one.0 other.0 t))) ∙ e in absurd cc
  | inr f ↦ (
    ltb-false one.0 other.0 f,
    λ same. elim (cases_Bool (ltb one.1 other.1)) [
      | inl t ↦ let bad : true ≡ false = sym (less_from one other (inr (same, ltb-true one.1 other.1 t))) ∙ e in absurd cc
      | inr g ↦ ltb-false one.1 other.1 g
    ],
  )
]

key_total : IsTotalOrder key_cmp
key_total = then_total (on_total (λ (key : ℕ × ℕ). key.0) nat_cmp_total) (on_total (λ (key : ℕ × ℕ). key.1) nat_cmp_total)

keys_rise : (keys : List (ℕ × ℕ)) → IsSorted key_cmp keys → (i j : ℕ) (d : ℕ × ℕ) → i ≤ j → j < length keys → is_less (get_or keys j d) (get_or keys i d) ≡ false
keys_rise keys rising = sorted_far is_less (ranks_by key_total (λ key. key)) keys rising

-- so a search for a key may go by halves
pub keys_part : (keys : List (ℕ × ℕ)) (other : ℕ × ℕ) → IsSorted key_cmp keys → IsPartitionedBy (λ key. is_less key other) keys
keys_part keys other rising i j d le within less =
    let back = not_less (get_or keys j d) (get_or keys i d) (keys_rise keys rising i j d le within) in
    let low = back.0 in
    less_from (get_or keys i d) other (elim (less_true (get_or keys j d) other less) [
      | inl below ↦ inl (omega (arith, low, below))
      | inr both ↦
          let same = both.0 in
          let below = both.1 in
          elim (cases_Bool (ltb (get_or keys i d).0 other.0)) [
            | inl t ↦ inl (ltb-true (get_or keys i d).0 other.0 t)
            | inr f ↦
                let high = ltb-false (get_or keys i d).0 other.0 f in
                let tied : (get_or keys j d).0 ≡ (get_or keys i d).0 = omega (arith, high, same, low) in
                let upto = back.1 tied in
                inr (omega (arith, tied, same), omega (arith, upto, below))
          ]
    ])

-- ---- the keys of a list

abbrev pub keys_from : ℕ → List Aborted → List (ℕ × ℕ)
keys_from n aborted = map (λ p. (p.1.producer, p.0)) (enumerate_from n aborted)

-- each is of a transaction of the list
keys_are : (n : ℕ) (aborted : List Aborted) → All (λ key. (n ≤ key.1) × (key.1 < n + length aborted) × HoldsAt (λ a. a.producer ≡ key.0) aborted (key.1 - n)) (keys_from n aborted)
keys_are n [] k d within = absurd (omega arith)
keys_are n (a ∷ aborted) zero d within = (omega arith, omega arith, λ e. let first : n - n ≡ 0 = omega arith in rw first refl)
keys_are n (a ∷ aborted) (suc k) d within =
    let rest = keys_are (n + 1) aborted k d (omega (arith, within)) in
    let key = get_or (keys_from (n + 1) aborted) k d in
    let low = rest.0 in
    let high = rest.1 in
    let behind : key.1 - n ≡ suc (key.1 - (n + 1)) = omega (arith, low) in
    (omega (arith, low), omega (arith, high), λ e. rw behind (rest.2 e))

-- each transaction of the list has one
keys_have : (n : ℕ) (aborted : List Aborted) (place : ℕ) (d : Aborted) → place < length aborted
    → list_any (λ key. eqb key.0 (get_or aborted place d).producer && eqb key.1 (n + place)) (keys_from n aborted) ≡ true
keys_have n [] place d within = absurd (omega arith)
keys_have n (a ∷ aborted) zero d within =
    let same : eqb a.producer a.producer ≡ true = eq-eqb a.producer a.producer refl in
    let here : eqb n (n + 0) ≡ true = eq-eqb n (n + 0) (omega arith) in
    rw (same, here) refl
keys_have n (a ∷ aborted) (suc place) d within =
    let rest = keys_have (n + 1) aborted place d (omega arith) in
    let at : (n + 1) + place ≡ n + suc place = omega arith in
    rw (rw at at rest) (or_true (eqb a.producer (get_or aborted place d).producer && eqb n (n + suc place)))
  where
    or_true : (b : Bool) → (b || true) ≡ true
    or_true true = refl
    or_true false = refl

pub keys_of_list : (aborted : List Aborted) (keys : List (ℕ × ℕ)) → IsPermutation (keys_from 0 aborted) keys → AreKeysOf aborted keys
keys_of_list aborted keys permuted =
    All-permutation (λ key. (key.1 < length aborted) × HoldsAt (λ a. a.producer ≡ key.0) aborted key.1) (keys_from 0 aborted) keys permuted
    (λ k d within.
    let is = keys_are 0 aborted k d within in
    let high = is.1 in
    let key = get_or (keys_from 0 aborted) k d in
    let at : key.1 - 0 ≡ key.1 = omega arith in
    (omega (arith, high), λ e. rw at at (is.2 e)))

pub keys_of_each : (aborted : List Aborted) (keys : List (ℕ × ℕ)) → IsPermutation (keys_from 0 aborted) keys → HaveKeys aborted keys
keys_of_each aborted keys permuted place d within =
    let test : ℕ × ℕ → Bool = λ key. eqb key.0 (get_or aborted place d).producer && eqb key.1 place in
    let at : 0 + place ≡ place = omega arith in
    sym (list_any-IsPermutation test (keys_from 0 aborted) keys permuted) ∙ rw at at (keys_have 0 aborted place d within)

pub permuted_from : (aborted : List Aborted) (keys sorted : List (ℕ × ℕ)) → keys ≡ keys_from 0 aborted → IsPermutation keys sorted → IsPermutation (keys_from 0 aborted) sorted
permuted_from aborted keys sorted is permuted = rw is at permuted

-- ---- the search for a producer's first

-- the key is the producer's, and its transaction stands at the place or behind it, and ends above the offset
pub record Hits (aborted : List Aborted) (producer offset from : ℕ) (key : ℕ × ℕ) : Type 0 where
  pub own : key.0 ≡ producer
  pub on : from ≤ key.1
  pub above : (d : Aborted) → offset < (get_or aborted key.1 d).marker

-- keys that none of these is, up to a place; from there on none is in front of the producer's at the place
pub record Looked (aborted : List Aborted) (keys : List (ℕ × ℕ)) (producer offset from next : ℕ) : Type 0 where
  pub none : AllWithin (λ key. ¬ Hits aborted producer offset from key) keys 0 next
  pub ahead : AllWithin (λ key. is_less key (producer, from) ≡ false) keys next (length keys)

pub looked_first : (aborted : List Aborted) (keys : List (ℕ × ℕ)) (producer offset from next : ℕ) → ArePartedAt (producer, from) keys next → Looked aborted keys producer offset from next
looked_first aborted keys producer offset from next point = record {
  none =
      λ k d low upto hits.
      let own = hits.own in
      let on = hits.on in
      elim (less_true (get_or keys k d) (producer, from) (point.1.0 k d low upto)) [
        | inl below ↦ omega (arith, own, below)
        | inr both ↦ let front = both.1 in omega (arith, on, front)
      ];
  ahead = point.1.1;
}

-- where the key in front comes before this one, and the next doesn't
pub parted_between : (keys : List (ℕ × ℕ)) (other : ℕ × ℕ) (count : ℕ) → IsSorted key_cmp keys → count ≤ length keys → (0 < count → (d : ℕ × ℕ) → is_less (get_or keys (count - 1) d) other ≡ true)
    → (count < length keys → (d : ℕ × ℕ) → is_less (get_or keys count d) other ≡ false) → ArePartedAt other keys count
parted_between keys other count rising within front next = (
  within,
  (
    λ k d low upto. keys_part keys other rising k (count - 1) d (omega (arith, upto)) (omega (arith, upto, within)) (front (omega (arith, upto)) d),
    λ k d low upto. elim (cases_Bool (is_less (get_or keys k d) other)) [
      | inl t ↦
          let bad : true ≡ false = sym (keys_part keys other rising count k d low upto t) ∙ next (omega (arith, low, upto)) d in
          absurd cc
      | inr f ↦ f
    ],
  ),
)

-- no transaction of the producer's ends above the offset in front of all that the keys hit
none_own : (aborted : List Aborted) (keys : List (ℕ × ℕ)) (producer offset from upto : ℕ) → HaveKeys aborted keys → upto ≤ length aborted
    → ((k : ℕ) (d : ℕ × ℕ) → k < length keys → Hits aborted producer offset from (get_or keys k d) → upto ≤ (get_or keys k d).1) → AllWithin (λ a. is_own producer offset a ≡ false) aborted from upto
none_own aborted keys producer offset from upto have within behind place d low high = elim (cases_Bool (is_own producer offset (get_or aborted place d))) [
  | inl t ↦
      let here = get_or aborted place d in
      let parts = and_parts (eqb here.producer producer) (ltb offset here.marker) t in
      let some = Any-from_list_any (λ key. eqb key.0 here.producer && eqb key.1 place) keys (have place d (omega (arith, high, within))) in
      let key = some.1 in
      let is : get_or keys some.0 key ≡ key = some.3 in
      let tests = and_parts (eqb key.0 here.producer) (eqb key.1 place) some.4 in
      let of : here.producer ≡ producer = eqb-true here.producer producer parts.0 in
      let owner : key.0 ≡ here.producer = eqb-true key.0 here.producer tests.0 in
      let at : key.1 ≡ place = eqb-true key.1 place tests.1 in
      let above = ltb-true offset here.marker parts.1 in
      let hits : Hits aborted producer offset from key = record {
        own = owner ∙ of;
        on = omega (arith, at, low);
        above =
            λ e.
            let same : get_or aborted key.1 e ≡ here = ap (λ (n : ℕ). get_or aborted n e) at ∙ get_or_default aborted place e d (omega (arith, high, within)) in
            rw same above;
      } in
      let last : upto ≤ key.1 = rw is at (behind some.0 key some.2 (rw is hits)) in
      absurd (omega (arith, last, at, high))
  | inr f ↦ f
]

-- the first key from there on that hits is that of the first of the producer's that ends above the offset
pub found_own : (aborted : List Aborted) (keys : List (ℕ × ℕ)) (producer offset from next place : ℕ) → IsSorted key_cmp keys → AreKeysOf aborted keys → HaveKeys aborted keys
    → Looked aborted keys producer offset from next → next < length keys → ((d : ℕ × ℕ) → (get_or keys next d).0 ≡ producer) → ((d : ℕ × ℕ) → (get_or keys next d).1 ≡ place)
    → ((d : Aborted) → offset < (get_or aborted place d).marker) → IsFirstFrom (is_own producer offset) aborted from place
found_own aborted keys producer offset from next place rising of_list of_each looked within own at above = (on, none_own aborted keys producer offset from place of_each before behind, passes)
  where
    key : ℕ × ℕ
    key = get_or keys next (producer, from)

    on : from ≤ place
    on =
        let ahead = (not_less key (producer, from) (looked.ahead next (producer, from) (omega arith) within)).1 (own (producer, from)) in
        let here = at (producer, from) in
        omega (arith, ahead, here)

    before : place ≤ length aborted
    before =
        let low = (of_list next (producer, from) within).0 in
        let here = at (producer, from) in
        omega (arith, low, here)

    behind : (k : ℕ) (d : ℕ × ℕ) → k < length keys → Hits aborted producer offset from (get_or keys k d) → place ≤ (get_or keys k d).1
    behind k d upto hits = elim (cases_Bool (ltb k next)) [
      | inl t ↦ absurd (looked.none k d (omega arith) (ltb-true k next t) hits)
      | inr f ↦
          let high = ltb-false k next f in
          let same : (get_or keys k d).0 ≡ (get_or keys next d).0 = hits.own ∙ sym (own d) in
          let upper = (not_less (get_or keys k d) (get_or keys next d) (keys_rise keys rising next k d high upto)).1 same in
          let here = at d in
          omega (arith, upper, here)
    ]

    passes : place < length aborted → (d : Aborted) → is_own producer offset (get_or aborted place d) ≡ true
    passes low d =
        let of : (get_or aborted place d).producer ≡ producer = rw at at ((of_list next (producer, from) within).1 d) ∙ own (producer, from) in
        rw (eq-eqb (get_or aborted place d).producer producer of, lt-ltb offset (get_or aborted place d).marker (above d)) refl

-- where the keys end, or another producer's follow, there is none
pub none_left : (aborted : List Aborted) (keys : List (ℕ × ℕ)) (producer offset from next : ℕ) → IsSorted key_cmp keys → HaveKeys aborted keys → Looked aborted keys producer offset from next
    → from ≤ length aborted → (next < length keys → (d : ℕ × ℕ) → (get_or keys next d).0 ≡ producer → ⊥) → IsFirstFrom (is_own producer offset) aborted from (length aborted)
none_left aborted keys producer offset from next rising of_each looked within other = (
  within,
  none_own aborted keys producer offset from (length aborted) of_each (omega arith) (λ k d upto hits. elim (cases_Bool (ltb k next)) [
    | inl t ↦ absurd (looked.none k d (omega arith) (ltb-true k next t) hits)
    | inr f ↦
        let high = ltb-false k next f in
        let low = (not_less (get_or keys k d) (get_or keys next d) (keys_rise keys rising next k d high upto)).0 in
        let ahead = (not_less (get_or keys next d) (producer, from) (looked.ahead next d (omega arith) (omega (arith, high, upto)))).0 in
        let own = hits.own in
        absurd (other (omega (arith, high, upto)) d (omega (arith, low, ahead, own)))
  ]),
  λ past. absurd (omega arith),
)
