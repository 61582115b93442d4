-- What a consumer's fetch does (Kafka protocol guide, Fetch; KIP-98 for read_committed, KIP-74 for the first batch).
use Rattle.std.specs.Prelude.{◌≡◌, ℕ, List, [], map, Result, IfOk, OnOk, OnErr}
use Rattle.std.specs.List.{filter}
use Rattle.std.specs.List.Sorted.{IsNonDecreasingBy, IsPermutation}
use Rattle.kp_types.specs.Causes.{IsRefusedBy}
use Rattle.kp_types.specs.declared.refusal.Refusal.{Refusal}
use Rattle.kp_model.specs.Fetching.{first_within}
use Rattle.kp_model.specs.Log.{Batch, below, end_of, logged}
use Rattle.kp_model.specs.Reading.{read_cause}
use Rattle.kp_model.specs.Transactions.{Aborted, aborted_in, stable}
use Rattle.kp_model.specs.Visible.{is_visible}
use Rattle.kp_model.specs.World.{Node}
use Rattle.kp_log.specs.Logged.{reaching}
use Rattle.kp_board.specs.Views.{CallerView}
use Rattle.kp_visible.specs.Client.{gone_over, is_clear, kept, named, overlapping}
use Rattle.kp_node.specs.Acks.{IsPieceOf, SawHeld}
use Rattle.kp_node.specs.Fetched.{FetchedView}
use Rattle.kp_node.specs.Seated.{SeatedNode}
use Rattle.kp_node.specs.declared.fetched.Isolation.{Isolation}
use Rattle.kp_node.specs.declared.fetched.Isolation.TheVariants.{ReadUncommitted, ReadCommitted}

-- up to where a consumer is shown the node's log: the high watermark, or the last stable offset there
abbrev pub shown_up_to : Isolation → Node → ℕ
shown_up_to ReadUncommitted x = x.watermark
shown_up_to ReadCommitted x = stable x.log x.watermark

-- The log's aborted transactions that overlap these batches are named, by rising first offset; and a client that looks at these names and
-- these batches alone is left with just the batches that are visible, by what it drops and as it is programmed, and by what these
-- transactions span (KIP-98).
pub record NamesAborted (log batches : List Batch) (aborted : List Aborted) : Type 0 where
  pub rising : IsNonDecreasingBy (λ a. a.first) aborted
  pub those : IsPermutation (overlapping batches (aborted_in log)) aborted
  pub client : kept (map named aborted) batches ≡ filter (is_visible log) batches
  pub programmed : gone_over (map named aborted) [] batches ≡ filter (is_visible log) batches
  pub clear : filter (is_clear aborted) batches ≡ filter (is_visible log) batches

-- read uncommitted, none is named
abbrev pub Names : Isolation → (log batches : List Batch) → List Aborted → Type 0
Names ReadUncommitted log batches aborted = aborted ≡ []
Names ReadCommitted log batches aborted = NamesAborted log batches aborted

-- What a fetch from an offset on, of so many bytes, gives of a node in this state.
pub record IsFetch (from most : ℕ) (isolation : Isolation) (x : Node) (f : FetchedView) : Type 0 where
  pub batches : map logged f.batches ≡ first_within most (below (shown_up_to isolation x) (reaching from x.log))
  pub names : Names isolation x.log (map logged f.batches) f.aborted
  pub watermark : f.watermark ≡ x.watermark
  pub stable : f.stable ≡ stable x.log x.watermark
  pub end : f.end ≡ end_of x.log

-- It gave that, and its batches are a piece of the list that the caller's pass, which was `c` and is `d` then, has then seen.
pub record Fetches (from most : ℕ) (isolation : Isolation) (old new : SeatedNode) (c d : CallerView) (result : Result FetchedView Refusal) : Type 0 where
  pub same : new ≡ old
  pub gives : IfOk result (IsFetch from most isolation old.node.state)
  pub refused : IsRefusedBy (read_cause old.node.state from) result
  pub saw : OnOk result (SawHeld c d old.pass)
  pub piece : IfOk result (λ f. IsPieceOf (map logged f.batches) d.seen)
  pub err : OnErr result (d ≡ c)
