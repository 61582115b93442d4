-- What one fetch of a consumer gives (Kafka protocol guide, Fetch).
use Rattle.std.specs.Prelude.{ℕ, List}
use Rattle.kp_batch.specs.Batch.{Written}
use Rattle.kp_model.specs.Transactions.{Aborted}

-- Batches, the aborted transactions that a read-committed client filters them by, and the node's high watermark, its last stable offset
-- and its log's end, all of one moment.
pub record FetchedView : Type 0 where
  pub batches : List Written
  pub aborted : List Aborted
  pub watermark : ℕ
  pub stable : ℕ
  pub end : ℕ
