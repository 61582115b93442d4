-- What a node answers of a receipt, and what a caller's pass then shows (Kafka replication design; own rule for passes).
use Rattle.std.specs.Prelude.{◌≡◌, ℕ, ◌≤◌, ◌<◌, ◌++◌, slice_index, ◌==◌, ◌&&◌, Bool, if◌then◌else◌, List, [], Option, Some, None, Ok, Contains}
use Rattle.kp_batch.specs.Batch.{Body}
use Rattle.kp_model.specs.Beginning.{Begins}
use Rattle.kp_model.specs.Event.{Line}
use Rattle.kp_model.specs.Log.{Batch, below, next_offset}
use Rattle.kp_model.specs.Lookups.{batch_at}
use Rattle.kp_model.specs.Reading.{lines_from}
use Rattle.kp_model.specs.Visible.{visible}
use Rattle.kp_model.specs.World.{Node}
use Rattle.kp_replica.specs.declared.producing.Receipt.{Receipt}
use Rattle.kp_replica.specs.Replies.{IsOffer, IsNamedBy, StandsFor}
use Rattle.kp_board.specs.Views.{NodeView, Note, CallerView, KeptReceipt, node_note}
use Rattle.kp_board.specs.Plays.{Learned}
use Rattle.kp_node.specs.declared.ack.Ack.{Ack}
use Rattle.kp_node.specs.declared.ack.Ack.TheVariants.{Yes, Lost, NotYet}

-- the batch has the receipt's offset and leader epoch
abbrev pub is_receipts : Receipt → Batch → Bool
is_receipts r b = (b.base == r.base) && (b.epoch == r.epoch)

abbrev pub ack_by : Receipt → Option Batch → Ack
ack_by r None = NotYet
ack_by r (Some b) = if is_receipts r b then Yes else Lost

-- by the batch, of those below the watermark, that holds the receipt's offset
abbrev pub ack_of : Node → Receipt → Ack
ack_of x r = ack_by r (batch_at (below x.watermark x.log) r.base)

-- The caller's pass, which was c and is d now, was told what this node's pass shows, and then looked at the node's mark word.
abbrev pub SawHeld : CallerView → CallerView → NodeView → Type 0
SawHeld c d p = (mark : ℕ) × Learned (record c { told = node_note p }) d p.number mark

-- The caller's pass, which was c and is d now, was told something, and then looked at node k's mark word: it has seen a list that
-- goes on from the one before, and all else that it shows is as it was, but for the watermark shown of this node.
abbrev pub Learns : CallerView → CallerView → (k : ℕ) → Type 0
Learns c d k = (told : Note) × (mark : ℕ) × Learned (record c { told = told }) d k mark

-- The receipt is put to a pass's: the bytes handed in a batch, and the one that the receipt names stands in the log for it.
pub record IsKept (max : ℕ) (bytes : List ℕ) (log : List Batch) (receipt : Receipt) (x : KeptReceipt) : Type 0 where
  pub bytes_are : x.bytes ≡ bytes
  pub body : Body
  pub handed : IsOffer max bytes (Ok body)
  pub stands : Contains log x.batch
  pub named : IsNamedBy receipt x.batch
  pub stands_for : StandsFor receipt.duplicate x.batch body

-- The same of a marker with this body, for which no bytes were handed in.
pub record IsMarkerKept (body : Body) (log : List Batch) (receipt : Receipt) (x : KeptReceipt) : Type 0 where
  pub bytes_are : x.bytes ≡ []
  pub stands : Contains log x.batch
  pub named : IsNamedBy receipt x.batch
  pub is : x.batch.body ≡ body

-- the pass has the batch in its list, and what it was shown of this node has reached the end of the batch
pub record HasIt (d : CallerView) (node : ℕ) (b : Batch) : Type 0 where
  pub seen : Contains d.seen b
  pub marked : next_offset b ≤ slice_index d.marks node

-- the pass has another batch at this offset
pub record HasAnother (d : CallerView) (offset : ℕ) (b : Batch) : Type 0 where
  pub batch : Batch
  pub seen : Contains d.seen batch
  pub from : batch.base ≤ offset
  pub to : offset < next_offset batch
  pub another : b ≡ batch → ⊥

-- These are the lines from an offset on that a read-committed consumer is shown of a beginning of the list, at this high watermark (KIP-98).
abbrev pub AreLinesOf : List Line → (from watermark : ℕ) → List Batch → Type 0
AreLinesOf lines from watermark list = (front : List Batch) × Begins front list × (lines ≡ lines_from from (visible front watermark))

-- the batches are consecutive elements of the list
pub record IsPieceOf (batches list : List Batch) : Type 0 where
  pub before : List Batch
  pub after : List Batch
  pub is : before ++ (batches ++ after) ≡ list
