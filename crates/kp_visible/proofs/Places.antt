-- Where the batches of a log stand.
use Rattle.std.proofs.Common.{◌≡◌, ◌⊎◌, ℕ, ◌+◌, ◌<◌, ◌≤◌, Bool, true, false, List, [], ◌∷◌, ◌++◌, refl, sym, ◌∙◌, subst, arith, inl, inr, leb, append-nil}
use Rattle.std.specs.List.{AllByRecursion, filter}
use Rattle.std.proofs.lemmas.Bool.{cases_Bool, le-leb, lt-leb}
use Rattle.kp_model.specs.Log.{Batch, width, next_offset, Follow, IsLog, below, from_offset}
use Rattle.std.proofs.lemmas.List.Elements.{filter-append}
use Rattle.kp_visible.proofs.Lists.{Splits, filter_all, filter_none}
use Rattle.kp_types.proofs.Elements.{all_weaker, all_both, all_append}

-- the batches stand apart from this offset on, each behind the one in front of it, and each takes some offset
abbrev pub Apart : ℕ → List Batch → Type 0
Apart low [] = Unit {0}
Apart low (b ∷ bs) = (low ≤ b.base) × (b.base < next_offset b) × Apart (next_offset b) bs

lower : (low high : ℕ) (bs : List Batch) → low ≤ high → Apart high bs → Apart low bs
lower low high [] le h = tt
lower low high (b ∷ bs) le h = let from = h.0 in (omega arith, h.1, h.2)

follow_apart : (offset epoch : ℕ) (log : List Batch) → Follow offset epoch log → Apart offset log
follow_apart offset epoch [] h = tt
follow_apart offset epoch (b ∷ bs) h =
    let at = h.0 in
    let some : 0 < width b = h.2.some in
    let next : next_offset b ≡ offset + width b = omega arith in
    (omega arith, omega arith, subst (λ (n : ℕ). Apart n bs) (sym next) (follow_apart (offset + width b) b.epoch bs h.3))

-- a log's batches do
pub log_apart : (log : List Batch) → IsLog log → Apart 0 log
log_apart log h = follow_apart 0 0 log h

pub apart_filter : (p : Batch → Bool) (low : ℕ) (bs : List Batch) → Apart low bs → Apart low (filter p bs)
apart_filter p low [] h = tt
apart_filter p low (b ∷ bs) h =
    let from = h.0 in
    let some = h.1 in
    let rest = apart_filter p (next_offset b) bs h.2 in
    elim (cases_Bool (p b)) [
      | inl t ↦ rw t (h.0, h.1, rest)
      | inr f ↦ rw f (lower low (next_offset b) (filter p bs) (omega arith) rest)
    ]

-- each begins at that offset or above
pub all_from : (low : ℕ) (bs : List Batch) → Apart low bs → AllByRecursion (λ x. low ≤ x.base) bs
all_from low [] h = tt
all_from low (b ∷ bs) h =
    let from = h.0 in
    let some = h.1 in
    (h.0, all_weaker (λ x. next_offset b ≤ x.base) (λ x. low ≤ x.base) (λ x le. omega arith) bs (all_from (next_offset b) bs h.2))

-- each takes some offset
pub all_take : (low : ℕ) (bs : List Batch) → Apart low bs → AllByRecursion (λ x. x.base < next_offset x) bs
all_take low [] h = tt
all_take low (b ∷ bs) h = (h.1, all_take (next_offset b) bs h.2)

-- the batch stands behind those in front of it, and in front of those behind it
pub record Around (front back : List Batch) (b : Batch) : Type 0 where
  pub ends : AllByRecursion (λ x. (x.base < next_offset x) × (next_offset x ≤ b.base)) front
  pub some : b.base < next_offset b
  pub behind : Apart (next_offset b) back

pub around : (low : ℕ) (front back : List Batch) (b : Batch) → Apart low (front ++ b ∷ back) → Around front back b
around low [] back b h = record { ends = tt; some = h.1; behind = h.2 }
around low (x ∷ front) back b h =
    let rest = around (next_offset x) front back b h.2 in
    let from = from_tail (next_offset x) front back b h.2 in
    record { ends = ((h.1, from), rest.ends); some = rest.some; behind = rest.behind }
  where
    from_tail : (low : ℕ) (front back : List Batch) (b : Batch) → Apart low (front ++ b ∷ back) → low ≤ b.base
    from_tail low [] back b h = h.0
    from_tail low (x ∷ front) back b h =
        let from = h.0 in
        let some = h.1 in
        let rest = from_tail (next_offset x) front back b h.2 in
        omega arith

-- ---- below a batch, and from behind one on

pub below_split : (front back : List Batch) (m : Batch) → Around front back m → below m.base (front ++ m ∷ back) ≡ front
below_split front back m at =
    let test : Batch → Bool = λ x. leb (next_offset x) m.base in
    let some = at.some in
    let front_is = filter_all test front (all_weaker _ (λ x. test x ≡ true) (λ x h. le-leb (next_offset x) m.base h.1) front at.ends) in
    let later : (x : Batch) → (next_offset m ≤ x.base) × (x.base < next_offset x) → test x ≡ false = λ x h. let from = h.0 in let takes = h.1 in lt-leb (next_offset x) m.base (omega arith) in
    let back_is = filter_none test back (all_weaker _ (λ x. test x ≡ false) later back
    (all_both (λ x. next_offset m ≤ x.base) (λ x. x.base < next_offset x) back (all_from (next_offset m) back at.behind) (all_take (next_offset m) back at.behind))) in
    let here : test m ≡ false = lt-leb (next_offset m) m.base some in
    filter-append test front (m ∷ back) ∙ rw (here, front_is, back_is) (append-nil front)

pub from_split : (front back : List Batch) (b : Batch) → Around front back b → from_offset (next_offset b) (front ++ b ∷ back) ≡ back
from_split front back b at =
    let test : Batch → Bool = λ x. leb (next_offset b) x.base in
    let some = at.some in
    let earlier : (x : Batch) → (x.base < next_offset x) × (next_offset x ≤ b.base) → test x ≡ false = λ x h. let takes = h.0 in let ends = h.1 in lt-leb (next_offset b) x.base (omega arith) in
    let front_is = filter_none test front (all_weaker _ (λ x. test x ≡ false) earlier front at.ends) in
    let back_is = filter_all test back (all_weaker _ (λ x. test x ≡ true) (λ x h. le-leb (next_offset b) x.base h) back (all_from (next_offset b) back at.behind)) in
    let here : test b ≡ false = lt-leb (next_offset b) b.base some in
    filter-append test front (b ∷ back) ∙ rw (here, front_is, back_is) refl

-- up to the end of a batch
pub upto_split : (front back : List Batch) (m : Batch) → Around front back m → below (next_offset m) (front ++ m ∷ back) ≡ front ++ m ∷ []
upto_split front back m at =
    let test : Batch → Bool = λ x. leb (next_offset x) (next_offset m) in
    let some = at.some in
    let front_is = filter_all test front (all_weaker _ (λ x. test x ≡ true) (λ x h. let ends = h.1 in le-leb (next_offset x) (next_offset m) (omega (arith, some, ends))) front at.ends) in
    let later : (x : Batch) → (next_offset m ≤ x.base) × (x.base < next_offset x) → test x ≡ false = λ x h. let from = h.0 in let takes = h.1 in lt-leb (next_offset x) (next_offset m) (omega arith) in
    let back_is = filter_none test back (all_weaker _ (λ x. test x ≡ false) later back
    (all_both (λ x. next_offset m ≤ x.base) (λ x. x.base < next_offset x) back (all_from (next_offset m) back at.behind) (all_take (next_offset m) back at.behind))) in
    let here : test m ≡ true = le-leb (next_offset m) (next_offset m) (omega arith) in
    filter-append test front (m ∷ back) ∙ rw (here, front_is, back_is) refl

-- ---- where the other batches lie

-- the batch is this one, or lies in front of it or behind it
abbrev pub IsApart : Batch → Batch → Type 0
IsApart b x = (x ≡ b) ⊎ ((next_offset x ≤ b.base) ⊎ (next_offset b ≤ x.base))

pub each_apart : (log : List Batch) (b : Batch) → Apart 0 log → Splits log b → AllByRecursion (IsApart b) log
each_apart log b apart s =
    let at = around 0 s.front s.back b (subst (Apart 0) s.is apart) in
    subst (AllByRecursion (IsApart b)) (sym s.is)
    (all_append (IsApart b) s.front (b ∷ s.back) (all_weaker _ (IsApart b) (λ x h. inr (inl h.1)) s.front at.ends)
    (inl refl, all_weaker _ (IsApart b) (λ x h. inr (inr h)) s.back (all_from (next_offset b) s.back at.behind)))
