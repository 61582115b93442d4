-- The calls that are left of a script's sections.
use Rattle.std.proofs.Common.{◌≡◌, ◌∙◌, ℕ, ◌+◌, ◌<◌, ◌≤◌, List, [], ◌∷◌, ◌++◌, refl, sym, ap, subst, arith, length, take, drop, drop-drop, slice_index_or, length-drop, length-append, inl, inr, ◌-◌}
use lib.Seq.{drop-append-le, drop-nil, take-append-le}
use Rattle.std.proofs.lemmas.Bool.{cases_lt}
use Rattle.std.specs.List.{AllByRecursion}
use Rattle.kp_world.specs.Shown.{Stage}
use Rattle.kp_script.specs.Call.{Call}
use Rattle.kp_script.specs.Parsed.{calls_in}
use Rattle.kp_script.proofs.Played.{first_part}
use Rattle.kp_script.specs.Playing.{IsFirstWhole, IsWithin, MayPlay, left_in}

first_is : (sections : List (List (ℕ × Call))) (section : List (ℕ × Call)) → 0 < length sections → section ≡ slice_index_or sections 0 section → sections ≡ section ∷ drop 1 sections
first_is [] section some is = absurd (omega (arith, some))
first_is (x ∷ xs) section some is = ap (λ (y : List (ℕ × Call)). y ∷ xs) (sym is)

-- the calls of the first section that are left, and all others
pub record InFront (from : ℕ) (sections : List (List (ℕ × Call))) (section : List (ℕ × Call)) : Type 0 where
  pub sections_are : sections ≡ section ∷ drop 1 sections
  pub left_is : left_in from sections ≡ drop from section ++ calls_in (drop 1 sections)
  pub few : from ≤ length section

pub in_front : (from : ℕ) (sections : List (List (ℕ × Call))) (section : List (ℕ × Call)) → 0 < length sections → section ≡ slice_index_or sections 0 section
    → IsWithin from sections → InFront from sections section
in_front from sections section some is within =
    let first = first_is sections section some is in
    let few : from ≤ length section = subst (IsWithin from) first within in
    record {
      sections_are = first;
      left_is = ap (left_in from) first ∙ drop-append-le from section (calls_in (drop 1 sections)) few;
      few = few;
    }

-- so many more of the first section
pub further : (from n : ℕ) (sections : List (List (ℕ × Call))) (section : List (ℕ × Call)) → InFront from sections section → from + n ≤ length section → IsWithin (from + n) sections
further from n sections section p few = subst (IsWithin (from + n)) (sym p.sections_are) few

pub all_of_it : (from n : ℕ) (sections : List (List (ℕ × Call))) (section : List (ℕ × Call)) → InFront from sections section → from + n ≡ length section → IsFirstWhole (from + n) sections
all_of_it from n sections section p all = subst (IsFirstWhole (from + n)) (sym p.sections_are) all

pub left_further : (from n : ℕ) (sections : List (List (ℕ × Call))) → left_in (from + n) sections ≡ drop n (left_in from sections)
left_further from n sections = sym (drop-drop n from (calls_in sections))

pub next_is : (from n : ℕ) (sections : List (List (ℕ × Call))) (section : List (ℕ × Call)) → InFront from sections section → from + n ≤ length section
    → take n (drop from section) ≡ take n (left_in from sections)
next_is from n sections section p few =
    sym (ap (take n) p.left_is ∙ take-append-le n (drop from section) (calls_in (drop 1 sections)) (omega (arith, few, length-drop from section)))

pub front_may : (stage : Stage) (from : ℕ) (sections : List (List (ℕ × Call))) (section : List (ℕ × Call)) → InFront from sections section
    → AllByRecursion (λ call. MayPlay stage call.1) (left_in from sections) → AllByRecursion (λ call. MayPlay stage call.1) (drop from section)
front_may stage from sections section p may =
    first_part (λ call. MayPlay stage call.1) (drop from section) (calls_in (drop 1 sections)) (subst (AllByRecursion (λ call. MayPlay stage call.1)) p.left_is may)

pub within_none : (sections : List (List (ℕ × Call))) → IsWithin 0 sections
within_none [] = refl
within_none (section ∷ others) = omega arith

pub none_left : (from : ℕ) (sections : List (List (ℕ × Call))) → length sections ≤ 0 → left_in from sections ≡ []
none_left from [] none = drop-nil from
none_left from (section ∷ others) none = absurd (omega (arith, none))

-- fewer sections or fewer calls are left
pub fewer_left : (from n : ℕ) (sections : List (List (ℕ × Call))) (section : List (ℕ × Call)) (after : ℕ) (others : List (List (ℕ × Call))) → InFront from sections section
    → from + n ≤ length section → (from < length section → 0 < n) → left_in after others ≡ drop n (left_in from sections) → length others ≤ length sections
    → (IsFirstWhole (from + n) sections → length others < length sections)
    → length others + length (left_in after others) < length sections + length (left_in from sections)
fewer_left from n sections section after others p few some left fewer gone =
    let long : length (left_in after others) ≡ length (left_in from sections) - n = ap length left ∙ length-drop n (left_in from sections) in
    let whole : length (left_in from sections) ≡ (length section - from) + length (calls_in (drop 1 sections)) =
    ap length p.left_is ∙ length-append (drop from section) (calls_in (drop 1 sections)) ∙ ap (λ (n : ℕ). n + length (calls_in (drop 1 sections))) (length-drop from section) in
    elim (cases_lt from (length section)) [
      | inl more ↦ let moved : 0 < n = some more in omega (arith, long, whole, moved, few, fewer)
      | inr none ↦
          let n_is : from + n ≡ length section = omega (arith, few, none) in
          let one : length others < length sections = gone (all_of_it from n sections section p n_is) in
          omega (arith, long, one)
    ]
