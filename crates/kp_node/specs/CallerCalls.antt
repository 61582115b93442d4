-- What each call of a node for a caller does to the node and its pass, which were `old` and are `new` then, and to the caller's
-- pass, which was `c` and is `d` then (own rule).
use Rattle.std.specs.Prelude.{◌≡◌, ◌≢◌, ℕ, ◌∷◌, List, map, false, true, Result, Ok, Err, IfOk, IfErr, OnOk, OnErr, Contains}
use Rattle.std.specs.Global.{Vec}
use Rattle.kp_types.specs.Causes.{IsRefusedBy}
use Rattle.kp_types.specs.declared.refusal.Refusal.{Refusal}
use Rattle.kp_types.specs.declared.refusal.Refusal.TheVariants.{Down, Memory}
use Rattle.kp_batch.specs.Batch.{Body, Written}
use Rattle.kp_marker.specs.declared.parts.Marker.{Marker}
use Rattle.kp_model.specs.Admission.{admit, Duplicate}
use Rattle.kp_model.specs.Effect.{is_down}
use Rattle.kp_model.specs.Event.{Committed, Line, Produce}
use Rattle.kp_model.specs.Fetching.{at_least_one}
use Rattle.kp_model.specs.Log.{below, logged}
use Rattle.kp_model.specs.Reading.{read_cause}
use Rattle.kp_log.specs.Logged.{reaching}
use Rattle.kp_replica.specs.NumberedNode.{Does}
use Rattle.kp_replica.specs.Replies.{IsNamedBy, IsOffer, body_of, lines_reply, mark_of, receipt_reply}
use Rattle.kp_replica.specs.declared.producing.Receipt.{Receipt}
use Rattle.kp_board.specs.Views.{CallerView, KeptReceipt}
use Rattle.kp_node.specs.Acks.{ack_of, AreLinesOf, HasAnother, HasIt, IsKept, IsMarkerKept, IsPieceOf, SawHeld}
use Rattle.kp_node.specs.Seated.{SeatedNode}
use Rattle.kp_node.specs.declared.ack.Ack.{Ack}
use Rattle.kp_node.specs.declared.ack.Ack.TheVariants.{Yes, Lost}

-- It did with the batch that these bytes are what they offer, and the pass keeps the receipt with the bytes. Where they offer a batch
-- that stands already, no memory is wanted.
pub record Produces (bytes : List ℕ) (old new : SeatedNode) (c d : CallerView) (result : Result Receipt Refusal) : Type 0 where
  pub event : (offer : Result Body Refusal) → IsOffer old.node.limits.max_batch bytes offer
      → Does old.node new.node (Produce offer) (receipt_reply result)
  pub spared : (body : Body) → (base : ℕ) → IsOffer old.node.limits.max_batch bytes (Ok body)
      → admit old.node.state.log body.content ≡ Duplicate base → result ≢ Err Memory
  pub pass : new.pass ≡ record old.pass { state = new.node.state }
  pub kept : IfOk result (λ r. (x : KeptReceipt) × IsKept old.node.limits.max_batch bytes new.node.state.log r x
      × (d ≡ record c { receipts = x ∷ c.receipts; told = d.told }))
  pub err : OnErr result (d ≡ c)

-- It appended this marker, and the pass keeps the receipt.
pub record Marks (marker : Marker) (old new : SeatedNode) (c d : CallerView) (result : Result Receipt Refusal) : Type 0 where
  pub event : Does old.node new.node (mark_of marker) (receipt_reply result)
  pub pass : new.pass ≡ record old.pass { state = new.node.state }
  pub kept : IfOk result (λ r. (x : KeptReceipt) × IsMarkerKept (body_of marker) new.node.state.log r x
      × (d ≡ record c { receipts = x ∷ c.receipts; told = d.told }))
  pub err : OnErr result (d ≡ c)

-- It said of this receipt whether its batch is committed. At Yes the batch of each such receipt of the pass stands in the list that the
-- pass has then seen; at Lost another one does.
pub record Acks (receipt : Receipt) (old new : SeatedNode) (c d : CallerView) (result : Result Ack Refusal) : Type 0 where
  pub same : new ≡ old
  pub answer : IfOk result (λ ack. ack ≡ ack_of old.node.state receipt)
  pub up : OnOk result (is_down old.node.state.mode ≡ false)
  pub down : IfErr result (λ refusal. (refusal ≡ Down) × (is_down old.node.state.mode ≡ true))
  pub saw : OnOk result (SawHeld c d old.pass)
  pub yes : IfOk result (λ ack. ack ≡ Yes → (x : KeptReceipt) → Contains c.receipts x → IsNamedBy receipt x.batch
      → HasIt d old.pass.number x.batch)
  pub lost : IfOk result (λ ack. ack ≡ Lost → (x : KeptReceipt) → IsNamedBy receipt x.batch → HasAnother d receipt.base x.batch)
  pub err : OnErr result (d ≡ c)

-- It read batches below its high watermark from an offset on, a piece of the list that the pass has then seen.
pub record Reads (from : ℕ) (old new : SeatedNode) (c d : CallerView) (result : Result (Vec Written) Refusal) : Type 0 where
  pub same : new ≡ old
  pub found : IfOk result (λ batches. map logged batches.items
      ≡ at_least_one (below old.node.state.watermark (reaching from old.node.state.log)))
  pub refused : IsRefusedBy (read_cause old.node.state from) result
  pub saw : OnOk result (SawHeld c d old.pass)
  pub piece : IfOk result (λ batches. IsPieceOf (map logged batches.items) d.seen)
  pub err : OnErr result (d ≡ c)

-- It read the records from an offset on that a read-committed consumer gets of the list that the pass has then seen.
pub record ReadsCommitted (from : ℕ) (old new : SeatedNode) (c d : CallerView) (result : Result (List Line) Refusal) : Type 0 where
  pub same : new ≡ old
  pub does : Does old.node old.node (Committed from) (lines_reply result)
  pub of_seen : IfOk result (λ lines. AreLinesOf lines from old.node.state.watermark d.seen)
  pub saw : OnOk result (SawHeld c d old.pass)
  pub err : OnErr result (d ≡ c)
