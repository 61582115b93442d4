-- What a node tells of itself and of its log, of one moment (own rule; Kafka protocol guide, ListOffsets and OffsetForLeaderEpoch; KIP-101).
use Rattle.std.specs.Prelude.{◌≡◌, ℕ, nat_lt, map, Option, Some, None, Result, IfOk, OnOk, OnErr, if◌then◌else◌}
use Rattle.std.specs.Global.{Vec}
use Rattle.std.specs.Option.{option_map}
use Rattle.kp_types.specs.Causes.{IsRefusedBy, IsRefusedOnlyBy}
use Rattle.kp_types.specs.declared.refusal.Refusal.{Refusal}
use Rattle.kp_types.specs.declared.refusal.Refusal.TheVariants as refusals
use Rattle.kp_batch.specs.Batch.{Written}
use Rattle.kp_log.specs.Logged.{reaching}
use Rattle.kp_log.specs.Refusals.{read_cause}
use Rattle.kp_model.specs.Effect.{is_down}
use Rattle.kp_model.specs.Epochs.{end_for}
use Rattle.kp_model.specs.Fetching.{first_within}
use Rattle.kp_model.specs.Log.{end_of, logged}
use Rattle.kp_model.specs.Lookups.{offset_for_time}
use Rattle.kp_model.specs.Transactions.{stable}
use Rattle.kp_model.specs.World.{Mode, Down, Idle, Leads, Follows, Node}
use Rattle.kp_model.specs.declared.message.EpochEnd.{EpochEnd}
use Rattle.kp_segment.specs.Walk.{offset_and_timestamp}
use Rattle.kp_segment.specs.declared.walk.OffsetAndTimestamp.{OffsetAndTimestamp}
use Rattle.kp_replica.specs.Status.{status_of}
use Rattle.kp_board.specs.Views.{CallerView}
use Rattle.kp_node.specs.Acks.{SawHeld}
use Rattle.kp_node.specs.Fetches.{shown_up_to}
use Rattle.kp_node.specs.Seated.{SeatedNode}
use Rattle.kp_node.specs.declared.fetched.Isolation.{Isolation}
use Rattle.kp_node.specs.declared.telling.NodeState.{NodeState}

-- ---- its state

abbrev pub told_state : Node → NodeState
told_state x =
    record {
      life = x.life;
      kept_epoch = x.kept;
      status = status_of x.mode;
      end = end_of x.log;
      watermark = x.watermark;
      stable = stable x.log x.watermark;
      checkpoint = x.checkpoint;
    }

-- ---- its log

-- It told the batches from the one that holds an offset on, as many as fit into so many bytes, but at least one.
pub record TellsLog (from most : ℕ) (x : Node) (result : Result (Vec Written) Refusal) : Type 0 where
  pub batches : IfOk result (λ batches. map logged batches.items ≡ first_within most (reaching from x.log))
  pub refused : IsRefusedBy (read_cause x.log from) result

-- ---- where an epoch ends

-- a leader alone says where an epoch ends: its log is the partition's
abbrev pub leader_cause : Mode → Option Refusal
leader_cause Down = Some refusals.Down
leader_cause Idle = Some refusals.NotLeader
leader_cause (Leads l) = None
leader_cause (Follows f) = Some refusals.NotLeader

abbrev pub epoch_and_end : Option EpochEnd → Option (ℕ × ℕ)
epoch_and_end found = option_map (λ e. (e.epoch, e.end)) found

-- It told the largest epoch at most this one that its log has, and where that ends.
pub record TellsEnd (epoch : ℕ) (x : Node) (result : Result (Option EpochEnd) Refusal) : Type 0 where
  pub found : IfOk result (λ found. epoch_and_end found ≡ end_for x.log epoch)
  pub refused : IsRefusedOnlyBy (leader_cause x.mode) result

-- ---- the offset for a time

-- what is found, where it lies below an offset
abbrev pub found_below : ℕ → Option (ℕ × ℕ) → Option (ℕ × ℕ)
found_below offset None = None
found_below offset (Some found) = if nat_lt found.0 offset then Some found else None

abbrev pub down_cause : Node → Option Refusal
down_cause x = if is_down x.mode then Some refusals.Down else None

-- It told offset and timestamp of the first record, in offset order, whose timestamp is at least this one, where a consumer is shown that
-- record; and the caller's pass, which was `c` and is `d` then, has seen what the node holds committed.
pub record TellsOffset (time : ℕ) (isolation : Isolation) (old new : SeatedNode) (c d : CallerView) (result : Result (Option OffsetAndTimestamp) Refusal) : Type 0 where
  pub same : new ≡ old
  pub found : IfOk result (λ found. found ≡ offset_and_timestamp (found_below (shown_up_to isolation old.node.state) (offset_for_time old.node.state.log time)))
  pub refused : IsRefusedOnlyBy (down_cause old.node.state) result
  pub saw : OnOk result (SawHeld c d old.pass)
  pub err : OnErr result (d ≡ c)
