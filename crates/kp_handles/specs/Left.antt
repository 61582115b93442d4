-- Nodes that are read back, and what is promised (own rule).
use Rattle.std.specs.Prelude.{◌≡◌, ◌⊎◌, ℕ, ◌+◌, ◌<◌, ◌≤◌, ◌^◌, if◌then◌else◌, List, [], ◌∷◌, ◌++◌, map, length, slice_get, Option, Some, None}
use Rattle.std.specs.Option.{option_map_or}
use Rattle.kp_types.specs.declared.limits.Limits.{Limits}
use Rattle.kp_types.specs.declared.refusal.Refusal.{Refusal}
use Rattle.kp_types.specs.declared.refusal.Refusal.TheVariants.{RecordFull}
use Rattle.kp_batch.specs.Batch.{Written}
use Rattle.kp_model.specs.Left.{again}
use Rattle.kp_model.specs.Log.{Batch, below, logged}
use Rattle.kp_log.specs.BatchesIn.{AreBatchesIn}
use Rattle.kp_replica.specs.NumberedNode.{NumberedNode}
use Rattle.kp_replica.specs.ReadBack.{either_cause, read_back_cause}
use Rattle.kp_handles.specs.declared.left.KeptIn.{KeptIn}
use Rattle.kp_handles.specs.declared.left.PromiseIn.{PromiseIn}

-- nodes that were read back, from 0 on, and the sizes of their logs
pub record LeftView : Type 0 where
  pub limits : Limits
  pub nodes : List NumberedNode

abbrev pub kept_epoch_in : KeptIn → Option ℕ
kept_epoch_in k = if k.adopted then Some k.kept_epoch else None

-- the node that was kept so, with the log of these batches: down, in its next life
abbrev pub node_again : (number : ℕ) → Limits → List Written → KeptIn → NumberedNode
node_again number limits ws k = record {
  number = number;
  limits = limits;
  state = again (record { log = map logged ws; checkpoint = k.checkpoint; life = k.life; kept = kept_epoch_in k });
}

-- All the bytes are a row of batches, which are a log with this checkpoint, and the node has a next life: it stands behind the others.
abbrev pub KeepsNode : List ℕ → KeptIn → LeftView → LeftView → Type 0
KeepsNode bytes k old new =
    (ws : List Written) × (size : ℕ) × (k.life + 1 < 2 ^ 64) × AreBatchesIn old.limits.max_batch bytes ws size None
    × (read_back_cause [] ws k.checkpoint ≡ None)
    × (new ≡ record old { nodes = old.nodes ++ node_again (length old.nodes) old.limits ws k ∷ [] })

-- Why it isn't kept: it has no next life; else the bytes' first fault; else the batches aren't a log with this checkpoint.
abbrev pub KeepsNone : List ℕ → KeptIn → LeftView → Refusal → Type 0
KeepsNone bytes k old refusal =
    ((2 ^ 64 ≤ k.life + 1) × (refusal ≡ RecordFull))
    ⊎ ((ws : List Written) × (size : ℕ) × (fault : Option Refusal) × (k.life + 1 < 2 ^ 64) × AreBatchesIn old.limits.max_batch bytes ws size fault
    × (either_cause fault (read_back_cause [] ws k.checkpoint) ≡ Some refusal))

-- what is promised: the batches of a node's log below an offset
abbrev pub promised_of : PromiseIn → List NumberedNode → List Batch
promised_of p nodes = option_map_or (λ x. below p.offset x.state.log) (slice_get nodes p.node) []
