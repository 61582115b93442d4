-- Which batches a consumer shows by a list of aborted transactions (KIP-98, read_committed).
use Rattle.std.specs.Prelude.{ℕ, nat_lt, nat_le, ◌==◌, ◌&&◌, ◌||◌, not, Bool, true, false, List}
use Rattle.std.specs.List.{find}
use Rattle.std.specs.Option.{option_map_or}
use Rattle.kp_batch.specs.Batch.{Content, Plain, Produced, Marker}
use Rattle.kp_model.specs.Log.{Batch}
use Rattle.kp_model.specs.Producers.{content_of}
use Rattle.kp_model.specs.Transactions.{Aborted}

-- its marker stands above the offset
abbrev pub ends_above : ℕ → Aborted → Bool
ends_above offset a = nat_lt offset a.marker

-- it ends above the offset, and is the producer's, or at its marker nothing that began at or below the offset was open
-- any more
abbrev pub decides : ℕ → ℕ → Aborted → Bool
decides producer offset a = ends_above offset a && ((a.producer == producer) || nat_lt offset a.stable)

-- it is the producer's, and began at or below the offset
abbrev pub covers : ℕ → ℕ → Aborted → Bool
covers producer offset a = (a.producer == producer) && nat_le a.first offset

-- the first that decides hides the batch, where it covers it
abbrev pub hides : List Aborted → ℕ → ℕ → Bool
hides aborted producer offset = option_map_or (covers producer offset) (find (decides producer offset) aborted) false

abbrev pub shows_at : List Aborted → ℕ → Content → Bool
shows_at aborted offset (Plain records) = true
shows_at aborted offset (Produced producer epoch sequence transactional records) = not (transactional && hides aborted producer offset)
shows_at aborted offset (Marker producer epoch coordinator commit) = false

-- data that isn't transactional, or that the list doesn't hide
abbrev pub shows : List Aborted → Batch → Bool
shows aborted b = shows_at aborted b.base (content_of b)
