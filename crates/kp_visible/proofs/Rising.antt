-- Lists that rise by some number. The records of batches that stand apart rise by offset, and lie in their own batch.
use Rattle.std.proofs.Common.{◌≡◌, ℕ, zero, suc, ◌<◌, ◌≤◌, ◌+◌, List, [], ◌∷◌, ◌++◌, length, get_or, Some, ap, ◌∙◌, subst, arith}
use Rattle.std.specs.Prelude.{Contains}
use Rattle.std.specs.List.{AllByRecursion, AllPairs, enumerate_from, slice_get}
use Rattle.std.specs.List.Sorted.{IsNonDecreasingBy}
use Rattle.kp_batch.specs.Batch.{records_of}
use Rattle.kp_record.specs.Record.{Record}
use Rattle.kp_model.specs.Log.{Batch, next_offset}
use Rattle.kp_model.specs.Visible.{records_in}
use Rattle.kp_visible.proofs.Places.{Apart}
use Rattle.kp_types.proofs.Elements.{all_weaker}

-- each number is above the one in front of it, and at least this one
abbrev pub Rises : {X : Type 0} → (X → ℕ) → ℕ → List X → Type 0
Rises n low [] = Unit {0}
Rises n low (x ∷ xs) = (low ≤ n x) × Rises n (n x + 1) xs

pub rises_lower : {X : Type 0} (n : X → ℕ) (low high : ℕ) (xs : List X) → low ≤ high → Rises n high xs → Rises n low xs
rises_lower n low high [] le h = tt
rises_lower n low high (x ∷ xs) le h = let from = h.0 in (omega (arith, from, le), h.1)

rises_from : {X : Type 0} (n : X → ℕ) (low : ℕ) (xs : List X) → Rises n low xs → (j : ℕ) (d : X) → j < length xs → low ≤ n (get_or xs j d)
rises_from n low [] h j d lt = absurd (omega arith)
rises_from n low (x ∷ xs) h zero d lt = h.0
rises_from n low (x ∷ xs) h (suc j) d lt =
    let from = h.0 in
    let rest = rises_from n (n x + 1) xs h.1 j d (omega arith) in
    omega (arith, from, rest)

rises_pairs : {X : Type 0} (n : X → ℕ) (low : ℕ) (xs : List X) → Rises n low xs → AllPairs (λ one later. n one < n later) xs
rises_pairs n low [] h i j d lt within = absurd (omega arith)
rises_pairs n low (x ∷ xs) h i zero d lt within = absurd (omega arith)
rises_pairs n low (x ∷ xs) h zero (suc j) d lt within = let from = rises_from n (n x + 1) xs h.1 j d (omega arith) in omega (arith, from)
rises_pairs n low (x ∷ xs) h (suc i) (suc j) d lt within = rises_pairs n (n x + 1) xs h.1 i j d (omega arith) (omega arith)

pub rises_sorted : {X : Type 0} (n : X → ℕ) (low : ℕ) (xs : List X) → Rises n low xs → IsNonDecreasingBy n xs
rises_sorted n low [] h i j d le within = absurd (omega arith)
rises_sorted n low (x ∷ xs) h zero zero d le within = omega arith
rises_sorted n low (x ∷ xs) h (suc i) zero d le within = absurd (omega arith)
rises_sorted n low (x ∷ xs) h zero (suc j) d le within = let from = rises_from n (n x + 1) xs h.1 j d (omega arith) in omega (arith, from)
rises_sorted n low (x ∷ xs) h (suc i) (suc j) d le within = rises_sorted n (n x + 1) xs h.1 i j d (omega arith) (omega arith)

-- ---- offsets

abbrev OffsetsRise : ℕ → List (ℕ × Record) → Type 0
OffsetsRise low rs = Rises (λ r. r.0) low rs

rises_batch : (base : ℕ) (records : List Record) (rest : List (ℕ × Record)) → OffsetsRise (base + length records) rest → OffsetsRise base (enumerate_from base records ++ rest)
rises_batch base [] rest h = rises_lower (λ r. r.0) base (base + 0) rest (omega arith) h
rises_batch base (r ∷ records) rest h =
    (omega arith, rises_batch (base + 1) records rest (rises_lower (λ r. r.0) ((base + 1) + length records) (base + suc (length records)) rest (omega arith) h))

rises_in : (low : ℕ) (bs : List Batch) → Apart low bs → OffsetsRise low (records_in bs)
rises_in low [] h = tt
rises_in low (b ∷ bs) h =
    rises_lower (λ r. r.0) low b.base (records_in (b ∷ bs)) h.0 (rises_batch b.base (records_of b.body) (records_in bs) (rises_in (next_offset b) bs h.2))

pub records_rise : (bs : List Batch) → Apart 0 bs → AllPairs (λ one later. one.0 < later.0) (records_in bs)
records_rise bs apart = rises_pairs (λ r. r.0) 0 (records_in bs) (rises_in 0 bs apart)

-- each record's offset is one of its batch's
pub offsets_within : (base : ℕ) (records : List Record) → AllByRecursion (λ r. (base ≤ r.0) × (r.0 < base + length records)) (enumerate_from base records)
offsets_within base [] = tt
offsets_within base (r ∷ records) = (
  (omega arith, omega arith),
  all_weaker (λ r. (base + 1 ≤ r.0) × (r.0 < (base + 1) + length records)) (λ r. (base ≤ r.0) × (r.0 < base + suc (length records)))
      (λ r h. let from = h.0 in let upto = h.1 in (omega (arith, from), omega (arith, upto))) (enumerate_from (base + 1) records) (offsets_within (base + 1) records),
)

-- and is the base offset and its place
pub record_at : (base place : ℕ) (records : List Record) (r : Record) → slice_get records place ≡ Some r → Contains (enumerate_from base records) (base + place, r)
record_at base place [] r e = absurd cc
record_at base zero (x ∷ records) r e =
    let found : Some x ≡ Some r = e in
    let same : x ≡ r = cc in
    let at : base ≡ base + 0 = omega arith in
    (0, omega arith, ap (λ (n : ℕ). let y : ℕ × Record = (n, x) in y) at ∙ ap (λ (y : Record). let z : ℕ × Record = (base + 0, y) in z) same)
record_at base (suc place) (x ∷ records) r e =
    let rest = record_at (base + 1) place records r e in
    let lt = rest.1 in
    let at : (base + 1) + place ≡ base + suc place = omega arith in
    let found : get_or (enumerate_from (base + 1) records) rest.0 (base + suc place, r) ≡ (base + suc place, r) =
    subst (λ (n : ℕ). get_or (enumerate_from (base + 1) records) rest.0 (n, r) ≡ (n, r)) at rest.2 in
    (suc rest.0, omega (arith, lt), found)
