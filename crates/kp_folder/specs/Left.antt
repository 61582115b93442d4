-- What a folder has that a run has left (own rule).
use Rattle.std.specs.Prelude.{◌≡◌, ℕ, ◌+◌, ◌<◌, ◌^◌, List, [], ◌∷◌, length, map, Option, Some, None}
use Rattle.std.specs.List.{AllByRecursion, flat_map}
use Rattle.kp_types.specs.declared.limits.Limits.{Limits}
use Rattle.kp_batch.specs.Batch.{Written, count_of}
use Rattle.kp_model.specs.Epochs.{epoch_cache}
use Rattle.kp_model.specs.Left.{LeftBehind, LeftNode, again}
use Rattle.kp_model.specs.Log.{logged}
use Rattle.kp_model.specs.World.{LeaderAndIsr}
use Rattle.kp_log.specs.BatchesIn.{AreBatchesIn}
use Rattle.kp_replica.specs.NumberedNode.{NumberedNode}
use Rattle.kp_replica.specs.ReadBack.{read_back_cause}
use Rattle.kp_texts.specs.declared.texts.EpochStart.{EpochStart}
use Rattle.kp_texts.specs.Texts.{IsRecordInRange, IsStateInRange, StateText, record_text, state_text}
use Rattle.kp_folder.specs.Files.{Files, record_name, segment_path, state_name}

-- the offset behind the batches, where this one is before them
abbrev pub end_behind : ℕ → List Written → ℕ
end_behind from [] = from
end_behind from (w ∷ ws) = end_behind (w.base + count_of w.body) ws

-- the node's file that begins at this offset has just these batches
abbrev pub IsSegment : Files → (max node from : ℕ) → List Written → Type 0
IsSegment files max node from ws = (bytes : List ℕ) × (files (segment_path node from) ≡ Some bytes) × AreBatchesIn max bytes ws (length bytes) None

-- From one offset to another one stand these segments of the node: each has batches, and the next one begins where they end.
abbrev pub AreSegments : Files → (max node from end : ℕ) → List (List Written) → Type 0
AreSegments files max node from end [] = from ≡ end
AreSegments files max node from end (ws ∷ more) =
    IsSegment files max node from ws × (from < end_behind from ws) × AreSegments files max node (end_behind from ws) end more

-- the batches of segments
abbrev pub joined : List (List Written) → List Written
joined segments = flat_map (λ ws. ws) segments

-- The node's log of this end has these batches.
abbrev pub HasBatches : Files → (max node end : ℕ) → List Written → Type 0
HasBatches files max node end ws = (segments : List (List Written)) × AreSegments files max node 0 end segments × (ws ≡ joined segments)

-- The file says this of the node.
abbrev pub HasState : Files → (node : ℕ) → StateText → Type 0
HasState files node s = IsStateInRange s × (files (state_name node) ≡ Some (state_text s))

-- where the leader epochs begin, by what the state says
abbrev pub start_pair : EpochStart → ℕ × ℕ
start_pair start = (start.epoch, start.start)

abbrev pub starts_of : StateText → List (ℕ × ℕ)
starts_of s = map start_pair s.starts

-- what is left of a node whose state says this, and whose log has these batches
abbrev pub left_in : StateText → List Written → LeftNode
left_in s ws = record { log = map logged ws; checkpoint = s.checkpoint; life = s.life; kept = s.kept }

-- The folder has this node: what its state says, with the log of the batches, which stand one behind another, up to the end that the state tells.
pub record HasNode (files : Files) (max node : ℕ) (x : LeftNode) : Type 0 where
  pub state : StateText
  pub said : HasState files node state
  pub batches : List Written
  pub kept : HasBatches files max node state.end batches
  pub stands : read_back_cause [] batches state.checkpoint ≡ None
  pub epochs : starts_of state ≡ epoch_cache (map logged batches)
  pub is : x ≡ left_in state batches

-- The file says this of the controller's record, and how many messages were sent, if that is kept.
abbrev pub HasRecord : Files → (count : ℕ) → LeaderAndIsr → (sent : Option ℕ) → Type 0
HasRecord files count c sent =
    IsRecordInRange (record { nodes = count; controller = c; messages = sent })
    × (files record_name ≡ Some (record_text (record { nodes = count; controller = c; messages = sent })))

-- the nodes from k on
abbrev pub HaveNodes : Files → (max k : ℕ) → List LeftNode → Type 0
HaveNodes files max k [] = Unit {0}
HaveNodes files max k (x ∷ xs) = HasNode files max k x × HaveNodes files max (k + 1) xs

-- The folder has what is left of a process: the controller's record, each node, and how many messages were sent, if that is kept.
pub record HasLeft (files : Files) (max : ℕ) (x : LeftBehind) (sent : Option ℕ) : Type 0 where
  pub record_is : HasRecord files (length x.nodes) x.controller sent
  pub nodes : HaveNodes files max 0 x.nodes

-- each node has a next life
abbrev pub HaveLives : List LeftNode → Type 0
HaveLives xs = AllByRecursion (λ x. x.life + 1 < 2 ^ 64) xs

-- the nodes from k on, as a new process has them
abbrev pub nodes_again : Limits → (k : ℕ) → List LeftNode → List NumberedNode
nodes_again limits k [] = []
nodes_again limits k (x ∷ xs) = record { number = k; limits = limits; state = again x } ∷ nodes_again limits (k + 1) xs
