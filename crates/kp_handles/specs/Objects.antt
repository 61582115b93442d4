-- What a handle holds (own rule).
use Rattle.std.specs.Prelude.{ℕ, List, Bool, true, false, Option, Some, None}
use Rattle.kp_batch.specs.Batch.{Written}
use Rattle.kp_model.specs.Event.{Line}
use Rattle.kp_model.specs.Transactions.{Open}
use Rattle.kp_model.specs.World.{Message as ModelMessage}
use Rattle.kp_model.specs.declared.message.MessageBody.{MessageBody}
use Rattle.kp_segment.specs.declared.name.SegmentName.{SegmentName}
use Rattle.kp_board.specs.Views.{CallerView}
use Rattle.kp_board.specs.declared.passes.BoardName.{Ghosts}
use Rattle.kp_node.specs.Fetched.{FetchedView}
use Rattle.kp_node.specs.Seated.{SeatedNode}
use Rattle.kp_handles.specs.Left.{LeftView}
use Rattle.kp_handles.specs.declared.object.Cluster.{Cluster as ClusterOf}
use Rattle.kp_handles.specs.declared.object.Kind.{Kind}
use Rattle.kp_handles.specs.declared.object.Kind.TheVariants.{Empty, Cluster, Node, Caller, Message, Batches, Fetched, Records, Transactions, Segments, Handed, Left}

-- nothing; a board of so many nodes, with those that aren't open yet, and how many callers' passes were opened; a node with its
-- pass; a caller's pass of a board of so many nodes; a message with its pass; batches, as a node answered them to a read; what a consumer's
-- fetch gave; records, as
-- a read-committed consumer gets them; transactions that are open; a log's segments, each by its name with its batches; the bytes that a client hands in; nodes that were
-- read back
pub data ObjectView : Type 0 where
  empty : ObjectView
  cluster : (nodes : ℕ) → (waiting : List SeatedNode) → (callers : ℕ) → ObjectView
  node : SeatedNode → ObjectView
  caller : (nodes : ℕ) → CallerView → ObjectView
  message : MessageBody → ModelMessage → ObjectView
  batches : List Written → ObjectView
  fetched : FetchedView → ObjectView
  records : List Line → ObjectView
  transactions : List Open → ObjectView
  segments : List (SegmentName × List Written) → ObjectView
  handed : List ℕ → ObjectView
  left : LeftView → ObjectView

abbrev pub cluster_view : {X : Type 0} → ClusterOf X → ObjectView
cluster_view c = cluster c.board.value c.waiting.items c.callers

abbrev pub object_view : {X : Type 0} {g : Ghosts X} → Kind X g → ObjectView
object_view Empty = empty
object_view (Cluster c) = cluster_view c
object_view (Node n) = node n
object_view (Caller c) = caller c.board.value c.pass
object_view (Message m) = message m.body m.pass
object_view (Batches b) = batches b.items
object_view (Fetched f) = fetched f
object_view (Records r) = records r
object_view (Transactions t) = transactions t.items
object_view (Segments s) = segments s.items
object_view (Handed bytes) = handed bytes
object_view (Left nodes) = left nodes

-- a handle's word
abbrev pub word_of : Option ObjectView → ℕ
word_of None = 0
word_of (Some o) = 1

abbrev pub is_open : Option ObjectView → Bool
is_open None = false
is_open (Some o) = true
