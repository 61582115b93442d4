-- What is counted.
use Rattle.std.proofs.Common.{◌≡◌, ℕ, zero, suc, ◌+◌, ◌*◌, ◌<◌, ◌≤◌, Bool, true, List, [], ◌∷◌, length, map, take, get_or, refl, ap, ◌∙◌, arith, inl, inr}
use Rattle.std.specs.Prelude.{Result, Ok, Err, IfOk, count_by, sum_by}
use Rattle.std.specs.List.{filter, range_with_len}
use Rattle.std.proofs.lemmas.Bool.{cases_Bool}
use Rattle.std.proofs.lemmas.List.Sums.{count_by_more_no, count_by_more_yes, length-filter, sum_by-append, sum_by-cons}
use Rattle.kp_race.specs.declared.outcome.Plan.{Plan}
use Rattle.kp_race.specs.declared.task.Task.{Task}
use Rattle.kp_race.specs.declared.task.Task.TheVariants.{Produce, Move}
use Rattle.kp_race.specs.Tasks.{most_receipts, tasks_of}

-- ---- receipts, of which more and more pass

module _ {X : Type 0} (p q : X → Bool) (weaker : (x : X) → p x ≡ true → q x ≡ true) where
  filters_more : (xs : List X) → length (filter p xs) ≤ length (filter q xs)
  filters_more [] = omega arith
  filters_more (x ∷ xs) =
      let rest = filters_more xs in
      elim (cases_Bool (p x)) [
        | inl holds ↦ (let too = weaker x holds in rw (holds, too) (omega (arith, rest)))
        | inr fails ↦
            elim (cases_Bool (q x)) [
              | inl holds ↦ rw (fails, holds) (omega (arith, rest))
              | inr none ↦ rw (fails, none) rest
            ]
      ]

  counts_more : (xs : List X) → count_by p xs ≤ count_by q xs
  counts_more xs = omega (arith, length-filter p xs, length-filter q xs, filters_more xs)

  pub counts_one : (xs : List X) (i : ℕ) (d : X) → i < length xs → q (get_or xs i d) ≡ true → (n : ℕ) → n ≤ count_by p (take i xs)
      → n + 1 ≤ count_by q (take (i + 1) xs)
  counts_one xs i d within holds n few = omega (arith, counts_more (take i xs), count_by_more_yes q xs i d within holds)

  pub counts_none : (xs : List X) (i : ℕ) (d : X) → i < length xs → (n : ℕ) → n ≤ count_by p (take i xs) → n ≤ count_by q (take (i + 1) xs)
  counts_none xs i d within n few =
      elim (cases_Bool (q (get_or xs i d))) [
        | inl holds ↦ omega (arith, counts_more (take i xs), count_by_more_yes q xs i d within holds)
        | inr fails ↦ omega (arith, counts_more (take i xs), count_by_more_no q xs i d within fails)
      ]

-- ---- receipts of each job

-- what follows of an Ok from two facts of it
pub both_ok : {X E : Type 0} (P Q R : X → Type 0) (r : Result X E) → ((x : X) → P x → Q x → R x) → IfOk r P → IfOk r Q → IfOk r R
both_ok P Q R (Ok x) f p q = f x p q
both_ok P Q R (Err e) f p q = tt

pub sum_within : {J R : Type 0} (most : J → ℕ) (many : R → ℕ) (jobs : List J) (rs : List R) → length rs ≡ length jobs
    → ((k : ℕ) (j : J) (r : R) → k < length jobs → many (get_or rs k r) ≤ most (get_or jobs k j)) → sum_by many rs ≤ sum_by most jobs
sum_within most many [] [] e h = omega arith
sum_within most many [] (r ∷ rs) e h = absurd (omega arith)
sum_within most many (j ∷ js) [] e h = absurd (omega arith)
sum_within most many (j ∷ js) (r ∷ rs) e h =
    let first = h 0 j r (omega arith) in
    let rest = sum_within most many js rs (omega arith) (λ k a b l. h (suc k) a b (omega arith)) in
    omega (arith, sum_by-cons most j js, sum_by-cons many r rs, first, rest)

sum_mapped : {J T : Type 0} (f : J → T) (most : T → ℕ) (jobs : List J) → sum_by (λ j. most (f j)) jobs ≡ sum_by most (map f jobs)
sum_mapped f most [] = refl
sum_mapped f most (j ∷ js) = omega (arith, sum_by-cons (λ i. most (f i)) j js, sum_by-cons most (f j) (map f js), sum_mapped f most js)

produced : (batches from many : ℕ) → sum_by most_receipts (map (λ number. Produce number batches) (range_with_len from many)) ≡ many * batches
produced batches from zero = omega arith
produced batches from (suc many) =
    omega (arith, sum_by-cons most_receipts (Produce from batches) (map (λ number. Produce number batches) (range_with_len (from + 1) many)), produced batches (from + 1) many)

-- all jobs of a plan
pub most_of_plan : {J : Type 0} (task : J → Task) (plan : Plan) (jobs : List J) → map task jobs ≡ tasks_of plan
    → sum_by (λ j. most_receipts (task j)) jobs ≡ plan.producers * plan.batches
most_of_plan task plan jobs is =
    let makers = map (λ number. Produce number plan.batches) (range_with_len 0 plan.producers) in
    sum_mapped task most_receipts jobs
    ∙ ap (sum_by most_receipts) is
    ∙ omega (arith, sum_by-append most_receipts makers (Move plan.moves ∷ []), sum_by-cons most_receipts (Move plan.moves) [], produced plan.batches 0 plan.producers)
