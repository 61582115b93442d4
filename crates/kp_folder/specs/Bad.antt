-- What of a folder is at fault, so that no run has left it (own rule).
use Rattle.std.specs.Prelude.{◌≡◌, ◌≢◌, ◌⊎◌, ℕ, ◌+◌, ◌<◌, ◌≤◌, ◌^◌, List, [], length, map, Option, Some, None}
use Rattle.kp_types.specs.declared.refusal.Refusal.{Refusal}
use Rattle.kp_types.specs.declared.refusal.Refusal.TheVariants.{BadFolder, Device, Memory, RecordFull}
use Rattle.kp_batch.specs.Batch.{Written}
use Rattle.kp_model.specs.Epochs.{epoch_cache}
use Rattle.kp_model.specs.Left.{LeftNode}
use Rattle.kp_model.specs.Log.{logged}
use Rattle.kp_model.specs.World.{LeaderAndIsr}
use Rattle.kp_log.specs.BatchesIn.{AreBatchesIn}
use Rattle.kp_replica.specs.ReadBack.{read_back_cause}
use Rattle.kp_texts.specs.Texts.{StateText}
use Rattle.kp_folder.specs.Files.{Files, segment_path}
use Rattle.kp_folder.specs.Left.{AreSegments, HasBatches, HasRecord, HasState, HaveNodes, IsSegment, end_behind, starts_of}
use Rattle.kp_folder.specs.declared.fault.FolderFault.{FolderFault}
use Rattle.kp_folder.specs.declared.fault.FolderFault.TheVariants.{Unread, NoMemory, BadFile, BadBatch, BadNode}
use Rattle.kp_folder.specs.declared.fault.KeptFile.TheVariants.{Record, State, Segment}

-- the refusal that a fault is
abbrev pub refusal_of : FolderFault → Refusal
refusal_of (Unread file) = Device
refusal_of NoMemory = Memory
refusal_of (BadFile file) = BadFolder
refusal_of (BadBatch node from place refusal) = refusal
refusal_of (BadNode node refusal) = refusal

-- it couldn't be read: F32, F33
abbrev pub IsStop : FolderFault → Type 0
IsStop (Unread file) = Unit {0}
IsStop NoMemory = Unit {0}
IsStop _ = ⊥

-- no record of so many nodes is said
abbrev pub NoRecord : Files → (count : ℕ) → FolderFault → Type 0
NoRecord files count fault = (fault ≡ BadFile Record) × ((c : LeaderAndIsr) (sent : Option ℕ) → HasRecord files count c sent → ⊥)

-- no state of the node is said
abbrev pub NoState : Files → (node : ℕ) → FolderFault → Type 0
NoState files node fault = (fault ≡ BadFile (State node)) × ((s : StateText) → HasState files node s → ⊥)

-- the file isn't there, or at this byte begins no batch
abbrev pub NoSegment : Files → (max node from : ℕ) → FolderFault → Type 0
NoSegment files max node from fault =
    ((fault ≡ BadFile (Segment node from)) × (files (segment_path node from) ≡ None))
    ⊎ ((place : ℕ) × (refusal : Refusal) × (bytes : List ℕ) × (ws : List Written)
    × (fault ≡ BadBatch node from place refusal) × (files (segment_path node from) ≡ Some bytes) × AreBatchesIn max bytes ws place (Some refusal))

-- it has no batch, or they go beyond the log's end
abbrev pub Misses : Files → (max node from end : ℕ) → FolderFault → Type 0
Misses files max node from end fault =
    (ws : List Written) × (fault ≡ BadFile (Segment node from)) × IsSegment files max node from ws × ((end_behind from ws ≤ from) ⊎ (end < end_behind from ws))

-- Up to some offset the log's segments are there, and the one that begins there is at fault.
pub record NoBatches (files : Files) (max node end : ℕ) (fault : FolderFault) : Type 0 where
  pub from : ℕ
  pub low : from < end
  pub segments : List (List Written)
  pub before : AreSegments files max node 0 from segments
  pub bad : NoSegment files max node from fault ⊎ Misses files max node from end fault

-- The batches aren't those of a node in this state: one doesn't stand behind those before it, or the checkpoint is no boundary; else the
-- leader epochs begin elsewhere.
abbrev pub Differs : (node : ℕ) → StateText → List Written → FolderFault → Type 0
Differs node s ws fault =
    ((refusal : Refusal) × (fault ≡ BadNode node refusal) × (read_back_cause [] ws s.checkpoint ≡ Some refusal))
    ⊎ ((fault ≡ BadFile (State node)) × (read_back_cause [] ws s.checkpoint ≡ None) × (starts_of s ≢ epoch_cache (map logged ws)))

-- the node's batches aren't there, or aren't those of a node in this state
abbrev pub NoLog : Files → (max node : ℕ) → StateText → FolderFault → Type 0
NoLog files max node s fault = NoBatches files max node s.end fault ⊎ ((ws : List Written) × HasBatches files max node s.end ws × Differs node s ws fault)

-- The node's state is said, and it has had its last life; else its log is at fault.
pub record NoLife (files : Files) (max node : ℕ) (fault : FolderFault) : Type 0 where
  pub state : StateText
  pub said : HasState files node state
  pub bad : ((fault ≡ BadNode node RecordFull) × (state.life + 1 ≡ 2 ^ 64)) ⊎ ((state.life + 1 < 2 ^ 64) × NoLog files max node state fault)

-- the node is at fault
abbrev pub NoNode : Files → (max node : ℕ) → FolderFault → Type 0
NoNode files max node fault = NoState files node fault ⊎ NoLife files max node fault

-- the nodes before one are there, and that one is at fault
abbrev pub NoNodes : Files → (max count : ℕ) → FolderFault → Type 0
NoNodes files max count fault = (xs : List LeftNode) × HaveNodes files max 0 xs × (length xs < count) × NoNode files max (length xs) fault

-- The record is at fault; else it is said, and the first node that is at fault is this one.
abbrev pub NoneLeft : Files → (max count : ℕ) → FolderFault → Type 0
NoneLeft files max count fault =
    NoRecord files count fault
    ⊎ ((c : LeaderAndIsr) × (sent : Option ℕ) × HasRecord files count c sent × NoNodes files max count fault)
