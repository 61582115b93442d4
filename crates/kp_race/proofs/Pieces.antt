-- What a node holds, read piece by piece.
use Rattle.std.proofs.Common.{◌≡◌, ℕ, suc, ◌+◌, ◌-◌, ◌≤◌, ◌<◌, ◌^◌, min, true, false, leb, ltb, List, [], ◌∷◌, ◌++◌, length, map, Some, None, refl, sym, ap, ◌∙◌, subst, append_assoc, arith, inl, inr}
use Rattle.std.specs.List.{AllByRecursion, slice_get}
use Rattle.std.proofs.lemmas.Bool.{cases_Bool, leb-true, le-ltb, lt-ltb, ltb-true, ltb-false}
use Rattle.std.proofs.lemmas.List.{map-append}
use Rattle.kp_types.proofs.Elements.{all_behind}
use Rattle.kp_batch.specs.Batch.{Written, count_of}
use Rattle.kp_model.specs.Beginning.{Begins}
use Rattle.kp_model.specs.Log.{Batch, width, next_offset, end_of, Follow, IsLog, below, logged}
use Rattle.kp_model.specs.Fetching.{at_least_one, fetch_bytes}
use Rattle.kp_model.specs.World.{Node}
use Rattle.kp_model.specs.Run.{held}
use Rattle.kp_model.proofs.Plain.FetchLimit.{first_within_is, at_least_one_begins, first_fitting}
use Rattle.kp_model.proofs.Plain.Logs.{Follow-rest, IsLog-begins, last_epoch_or}
use Rattle.kp_log.specs.Logged.{reaching}
use Rattle.kp_log.proofs.Reaching.{parts}
use Rattle.kp_race.specs.declared.agreement.Committed.{Committed}
use Rattle.kp_race.specs.Agreement.{ReadsOn, committed_as}

-- ---- which batches reach beyond an offset

-- all that start at an offset or above it
reaching_start : (offset epoch from : ℕ) (log : List Batch) → Follow offset epoch log → from ≤ offset → reaching from log ≡ log
reaching_start offset epoch from [] h l = refl
reaching_start offset epoch from (b ∷ bs) h l =
    let wide = h.2.some in
    let beyond : ltb from (next_offset b) ≡ true = lt-ltb from (next_offset b) (omega (arith, h.0)) in
    rw beyond (ap (λ (s : List Batch). b ∷ s) (reaching_start (offset + width b) b.epoch from bs h.3 (omega arith)))

-- of those below another one
reaching_below : (w from : ℕ) (log : List Batch) → below w (reaching from log) ≡ reaching from (below w log)
reaching_below w from [] = refl
reaching_below w from (b ∷ bs) =
    let rest = reaching_below w from bs in
    elim (cases_Bool (ltb from (next_offset b))) [
      | inl r ↦
          elim (cases_Bool (leb (next_offset b) w)) [
            | inl l ↦ rw (r, l, r) (ap (λ (s : List Batch). b ∷ s) rest)
            | inr h ↦ rw (r, h) rest
          ]
      | inr n ↦
          elim (cases_Bool (leb (next_offset b) w)) [
            | inl l ↦ rw (n, l, n) rest
            | inr h ↦ rw (n, h) rest
          ]
    ]

-- those beyond a later one, of those beyond an offset
reaching_later : (from next : ℕ) (log : List Batch) → from ≤ next → reaching next (reaching from log) ≡ reaching next log
reaching_later from next [] l = refl
reaching_later from next (b ∷ bs) l =
    let rest = reaching_later from next bs l in
    elim (cases_Bool (ltb from (next_offset b))) [
      | inl r ↦
          elim (cases_Bool (ltb next (next_offset b))) [
            | inl s ↦ rw (r, s) (ap (λ (t : List Batch). b ∷ t) rest)
            | inr n ↦ rw (r, n) rest
          ]
      | inr n ↦
          let low = ltb-false from (next_offset b) n in
          let too : ltb next (next_offset b) ≡ false = le-ltb next (next_offset b) (omega arith) in
          rw (n, too) rest
    ]

starts_before : (offset epoch : ℕ) (front : List Batch) (last : Batch) (rest : List Batch) → Follow offset epoch (front ++ last ∷ rest) → offset ≤ last.base
starts_before offset epoch [] last rest h = omega (arith, h.0)
starts_before offset epoch (b ∷ bs) last rest h = let later = starts_before (offset + width b) b.epoch bs last rest h.3 in omega arith

-- those behind a batch reach beyond its end, and no others
reaching_behind : (offset epoch : ℕ) (front : List Batch) (last : Batch) (rest : List Batch) → Follow offset epoch (front ++ last ∷ rest) → reaching (next_offset last) (front ++ last ∷ rest) ≡ rest
reaching_behind offset epoch [] last rest h =
    let own : ltb (next_offset last) (next_offset last) ≡ false = le-ltb (next_offset last) (next_offset last) (omega arith) in
    rw own (reaching_start (offset + width last) last.epoch (next_offset last) rest h.3 (omega (arith, h.0)))
reaching_behind offset epoch (b ∷ bs) last rest h =
    let later = starts_before (offset + width b) b.epoch bs last rest h.3 in
    let before : ltb (next_offset last) (next_offset b) ≡ false = le-ltb (next_offset last) (next_offset b) (omega (arith, h.0)) in
    rw before (reaching_behind (offset + width b) b.epoch bs last rest h.3)

all_reach : (from : ℕ) (log : List Batch) → AllByRecursion (λ b. from < next_offset b) (reaching from log)
all_reach from [] = tt
all_reach from (b ∷ bs) =
    elim (cases_Bool (ltb from (next_offset b))) [
      | inl r ↦ rw r (ltb-true from (next_offset b) r, all_reach from bs)
      | inr n ↦ rw n (all_reach from bs)
    ]

all_below : (w : ℕ) (log : List Batch) → AllByRecursion (λ b. next_offset b ≤ w) (below w log)
all_below w [] = tt
all_below w (b ∷ bs) =
    elim (cases_Bool (leb (next_offset b) w)) [
      | inl l ↦ rw l (leb-true (next_offset b) w l, all_below w bs)
      | inr h ↦ rw h (all_below w bs)
    ]

-- ---- of what a node holds

held_is_log : (x : Node) → IsLog x.log → IsLog (held x)
held_is_log x lawful = IsLog-begins (record { rest = reaching x.watermark x.log; is = sym (parts 0 0 x.watermark x.log lawful) }) lawful

pub all_held : (x : Node) → IsLog x.log → reaching 0 (held x) ≡ held x
all_held x lawful = reaching_start 0 0 0 (held x) (held_is_log x lawful) (omega arith)

behind : (holds : List Batch) (from : ℕ) (front : List Batch) (last : Batch) (rest : List Batch) → IsLog holds → reaching from holds ≡ front ++ last ∷ rest
    → reaching (next_offset last) holds ≡ rest
behind holds from front last rest lawful is =
    let whole = parts 0 0 from holds lawful in
    let tail = Follow-rest 0 0 (below from holds) (reaching from holds) (subst IsLog whole lawful) in
    let own = subst (Follow (0 + end_of (below from holds)) (last_epoch_or 0 (below from holds))) is tail in
    let reach = all_behind (λ b. from < next_offset b) front (last ∷ rest) (subst (AllByRecursion (λ b. from < next_offset b)) is (all_reach from holds)) in
    let later : from < next_offset last = reach.0 in
    sym (reaching_later from (next_offset last) holds (omega arith))
    ∙ ap (reaching (next_offset last)) is
    ∙ reaching_behind (0 + end_of (below from holds)) (last_epoch_or 0 (below from holds)) front last rest own

-- ---- a piece of it

last_splits : (xs : List Written) (x : Written) → slice_get xs (length xs - 1) ≡ Some x → (front : List Written) × (xs ≡ front ++ x ∷ [])
last_splits [] x e = absurd cc
last_splits (y ∷ []) x e =
    let one : length (y ∷ []) - 1 ≡ 0 = omega arith in
    let here : Some y ≡ Some x = ap (λ (n : ℕ). slice_get (y ∷ []) n) (sym one) ∙ e in
    ([], cc)
last_splits (y ∷ z ∷ zs) x e =
    let less : length (y ∷ z ∷ zs) - 1 ≡ suc (length (z ∷ zs) - 1) = omega arith in
    let here : slice_get (z ∷ zs) (length (z ∷ zs) - 1) ≡ Some x = ap (λ (n : ℕ). slice_get (y ∷ z ∷ zs) n) (sym less) ∙ e in
    let rest = last_splits (z ∷ zs) x here in
    (y ∷ rest.0, ap (λ (s : List Written). y ∷ s) rest.1)

-- what is read below the watermark is a piece of what is held
read_of : (x : Node) (from : ℕ) (piece : List Batch) → piece ≡ at_least_one (below x.watermark (reaching from x.log)) → Begins piece (reaching from (held x))
read_of x from piece is =
    subst (λ (s : List Batch). Begins s (reaching from (held x))) (sym (is ∙ ap at_least_one (reaching_below x.watermark from x.log))) (at_least_one_begins (reaching from (held x)))

none_of : (most : ℕ) (bs : List Batch) → first_fitting most bs ≡ [] → bs ≡ []
none_of most [] e = refl
none_of most (b ∷ bs) e = absurd cc

no_batch : (piece : List Written) → slice_get piece (length piece - 1) ≡ None → piece ≡ []
no_batch [] e = refl
no_batch (y ∷ []) e =
    let one : length (y ∷ []) - 1 ≡ 0 = omega arith in
    let here : Some y ≡ None = ap (λ (n : ℕ). slice_get (y ∷ []) n) (sym one) ∙ e in
    absurd cc
no_batch (y ∷ z ∷ zs) e =
    let less : length (y ∷ z ∷ zs) - 1 ≡ suc (length (z ∷ zs) - 1) = omega arith in
    let here : slice_get (z ∷ zs) (length (z ∷ zs) - 1) ≡ None = ap (λ (n : ℕ). slice_get (y ∷ z ∷ zs) n) (sym less) ∙ e in
    let none : z ∷ zs ≡ [] = no_batch (z ∷ zs) here in
    absurd cc

module _ (x : Node) (from : ℕ) (piece : List Written) (is : map logged piece ≡ at_least_one (below x.watermark (reaching from x.log))) where
  pub reads_nothing : slice_get piece (length piece - 1) ≡ None → (list : List Committed) → ReadsOn (held x) from list list None
  reads_nothing none list =
      let empty : map logged piece ≡ [] = ap (map logged) (no_batch piece none) in
      let all = reaching from (held x) in
      let whole : at_least_one all ≡ [] = sym (is ∙ ap at_least_one (reaching_below x.watermark from x.log)) ∙ empty in
      (none_of fetch_bytes all (sym (first_within_is fetch_bytes all) ∙ whole), refl)

  pub reads_on : IsLog x.log → x.watermark ≤ 2 ^ 62 → (last : Written) → slice_get piece (length piece - 1) ≡ Some last
      → (next : ℕ) → next ≡ min (last.base + count_of last.body) 18446744073709551615
      → (old new : List Committed) → new ≡ old ++ map committed_as (map logged piece) → ReadsOn (held x) from old new (Some next)
  reads_on lawful low last found next next_is old new new_is =
      let split = last_splits piece last found in
      let begins = read_of x from (map logged piece) is in
      let end = logged last in
      let shape : map logged piece ≡ map logged split.0 ++ end ∷ [] = ap (map logged) split.1 ∙ map-append logged split.0 (last ∷ []) in
      let whole : reaching from (held x) ≡ map logged split.0 ++ end ∷ begins.rest =
      sym begins.is ∙ ap (λ (s : List Batch). s ++ begins.rest) shape ∙ append_assoc (map logged split.0) (end ∷ []) begins.rest
      in
      let rest = behind (held x) from (map logged split.0) end begins.rest (held_is_log x lawful) whole in
      let under = all_behind (λ b. next_offset b ≤ x.watermark) (map logged split.0) (end ∷ begins.rest)
      (subst (AllByRecursion (λ b. next_offset b ≤ x.watermark)) (reaching_below x.watermark from x.log ∙ whole) (all_below x.watermark (reaching from x.log)))
      in
      let within : next_offset end ≤ x.watermark = under.0 in
      let exact : next ≡ next_offset end = omega arith in
      let some : 0 < length (map logged piece) = subst (λ (s : List Batch). 0 < length s) (sym shape) (some_front (map logged split.0) end) in
      (map logged piece, some, ap (λ (n : ℕ). map logged piece ++ reaching n (held x)) exact ∙ ap (λ (s : List Batch). map logged piece ++ s) rest ∙ begins.is, new_is)
    where
      some_front : (front : List Batch) (b : Batch) → 0 < length (front ++ b ∷ [])
      some_front [] b = omega arith
      some_front (f ∷ fs) b = omega arith
