-- Which place each number has.
use Rattle.std.specs.Prelude.{◌≡◌, ℕ, suc, ◌+◌, ◌-◌, ◌<◌, ◌==◌, length, slice_index_or, List, [], ◌∷◌, Option, Some, None, if◌then◌else◌}
use Rattle.std.specs.List.{slice_get}
use Rattle.std.specs.Option.{option_map}
use Rattle.std.specs.Map.{lookup}
use Rattle.std.specs.BTreeMap.{is_at}
use Rattle.std.specs.Ordering.{nat_cmp}

-- the place of a number: how many stand before the first that is it
abbrev pub place_of : ℕ → List ℕ → Option ℕ
place_of number [] = None
place_of number (n ∷ ns) = if number == n then Some 0 else option_map suc (place_of number ns)

-- no number stands at two places
abbrev pub AreApart : List ℕ → Type 0
AreApart numbers = (place number : ℕ) → slice_get numbers place ≡ Some number → place_of number numbers ≡ Some place

-- the last of a list stands at a place of it instead of what stood there
abbrev pub IsSwapped : {X : Type 0} → ℕ → List X → List X → Type 0
IsSwapped {X} place old new =
    (suc (length new) ≡ length old)
    × ((d : X) → place + 1 < length old → slice_index_or new place d ≡ slice_index_or old (length old - 1) d)
    × ((k : ℕ) (d : X) → (k ≡ place → ⊥) → k + 1 < length old → slice_index_or new k d ≡ slice_index_or old k d)

-- the value at a number
abbrev pub at : {X : Type 0} → ℕ → List (ℕ × X) → Option X
at number entries = lookup (is_at (nat_cmp number)) entries

-- the tree leads to each number's place, and each place's number is found
pub record IsPlaced (found : List (ℕ × ℕ)) (numbers : List ℕ) : Type 0 where
  pub here : (number place : ℕ) → at number found ≡ Some place → slice_get numbers place ≡ Some number
  pub there : (number place : ℕ) → slice_get numbers place ≡ Some number → at number found ≡ Some place
