-- What the threads of a race do, and what a producer keeps of its tries (own rule).
use Rattle.std.specs.Prelude.{◌≡◌, ◌≢◌, ℕ, Bool, true, false, List, [], ◌∷◌, ◌++◌, map, Some}
use Rattle.std.specs.List.{range_with_len, slice_get}
use Rattle.kp_replica.specs.declared.producing.Receipt.{Receipt}
use Rattle.kp_race.specs.declared.handed_in.Tried.{Tried}
use Rattle.kp_race.specs.declared.handed_in.Tried.TheVariants.{Took, OutOfOrder, NoLeader}
use Rattle.kp_race.specs.declared.outcome.Plan.{Plan}
use Rattle.kp_race.specs.declared.task.Task.{Task}
use Rattle.kp_race.specs.declared.task.Task.TheVariants.{Produce, Move}

-- the producers, from 0 on, and behind them the one that moves the leadership
abbrev pub tasks_of : Plan → List Task
tasks_of plan = map (λ number. Produce number plan.batches) (range_with_len 0 plan.producers) ++ Move plan.moves ∷ []

-- for how many batches it may have a receipt
abbrev pub most_receipts : Task → ℕ
most_receipts (Produce number batches) = batches
most_receipts (Move moves) = 0

-- ---- a producer's tries

-- it goes on unless no node leads
abbrev pub goes_on : Tried → Bool
goes_on (Took receipt) = true
goes_on OutOfOrder = true
goes_on NoLeader = false

-- where a node took the batch of this number, its newest receipt is the one that is kept; the others stay
abbrev pub KeepsNewest : Tried → ℕ → (old new : List Receipt) → Type 0
KeepsNewest (Took receipt) number old new = (slice_get new number ≡ Some receipt) × ((k : ℕ) → k ≢ number → slice_get new k ≡ slice_get old k)
KeepsNewest _ number old new = new ≡ old
