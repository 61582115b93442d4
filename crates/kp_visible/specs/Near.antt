-- Where in a list of aborted transactions the search for a batch begins: it goes on from the place of the batch in front.
use Rattle.std.specs.Prelude.{ℕ, zero, suc, ◌+◌, nat_le, Bool, false, List, [], ◌∷◌, drop, slice_get, if◌then◌else◌}
use Rattle.std.specs.List.{prefix_len}
use Rattle.std.specs.Option.{option_map_or}
use Rattle.kp_model.specs.Log.{Batch}
use Rattle.kp_model.specs.Transactions.{Aborted}
use Rattle.kp_visible.specs.Filter.{ends_above, shows}

-- its marker stands at the offset or below it
abbrev pub ended_by : ℕ → Aborted → Bool
ended_by offset a = nat_le a.marker offset

-- back from the place over the transactions that end above the offset
abbrev pub back_from : List Aborted → ℕ → ℕ → ℕ
back_from aborted offset zero = zero
back_from aborted offset (suc place) =
    if option_map_or (ends_above offset) (slice_get aborted place) false then back_from aborted offset place else suc place

-- on from the place over those that ended by the offset
abbrev pub on_from : List Aborted → ℕ → ℕ → ℕ
on_from aborted offset place = place + prefix_len (ended_by offset) (drop place aborted)

-- From any place, in a list that rises by marker: that of the first transaction that ends above the offset.
abbrev pub place_from : List Aborted → ℕ → ℕ → ℕ
place_from aborted offset place = on_from aborted offset (back_from aborted offset place)

-- the batches that are shown, each by the transactions from its place on
abbrev pub shown_from : List Aborted → ℕ → List Batch → List Batch
shown_from aborted place [] = []
shown_from aborted place (b ∷ batches) =
    if shows (drop (place_from aborted b.base place) aborted) b
    then b ∷ shown_from aborted (place_from aborted b.base place) batches
    else shown_from aborted (place_from aborted b.base place) batches
