-- What a node tells of itself and of its log, by a handle (own rule).
use Rattle.std.specs.Prelude.{◌≡◌, ℕ, true, false, unwrap_or, is_some, Option, Some, None, Result, Ok}
use Rattle.kp_types.specs.declared.refusal.Refusal.{Refusal}
use Rattle.kp_model.specs.declared.message.EpochEnd.{EpochEnd}
use Rattle.kp_segment.specs.declared.walk.OffsetAndTimestamp.{OffsetAndTimestamp}
use Rattle.kp_replica.specs.declared.adopting.Role.TheVariants.{Leads, Follows}
use Rattle.kp_replica.specs.declared.reading.Status.{Status}
use Rattle.kp_replica.specs.declared.reading.Status.TheVariants.{Down, Idle, Plays}
use Rattle.kp_node.specs.Seated.{SeatedNode}
use Rattle.kp_node.specs.Tells.{TellsEnd, told_state}
use Rattle.kp_node.specs.declared.telling.NodeState.{NodeState}
use Rattle.kp_handles.specs.declared.telling.EpochOut.{EpochOut}
use Rattle.kp_handles.specs.declared.telling.StateOut.{StateOut}
use Rattle.kp_handles.specs.declared.telling.TimeOut.{TimeOut}

-- a node told its state, and its log's end of an epoch
abbrev pub Shows : (old new : SeatedNode) → Result NodeState Refusal → Type 0
Shows old new result = (new ≡ old) × (result ≡ Ok (told_state old.node.state))

abbrev pub EndsFor : ℕ → (old new : SeatedNode) → Result (Option EpochEnd) Refusal → Type 0
EndsFor epoch old new result = (new ≡ old) × TellsEnd epoch old.node.state result

-- ---- as the caller is told

-- 0 down, 1 idle, 2 leads, 3 follows
abbrev pub status_number : Status → ℕ
status_number Down = 0
status_number Idle = 1
status_number (Plays (Leads epoch start)) = 2
status_number (Plays (Follows leader epoch)) = 3

abbrev pub status_epoch : Status → ℕ
status_epoch Down = 0
status_epoch Idle = 0
status_epoch (Plays (Leads epoch start)) = epoch
status_epoch (Plays (Follows leader epoch)) = epoch

abbrev pub status_start : Status → ℕ
status_start (Plays (Leads epoch start)) = start
status_start _ = 0

abbrev pub status_leader : Status → ℕ
status_leader (Plays (Follows leader epoch)) = leader
status_leader _ = 0

abbrev pub state_out : NodeState → StateOut
state_out s =
    record {
      life = s.life;
      end = s.end;
      watermark = s.watermark;
      stable = s.stable;
      checkpoint = s.checkpoint;
      start = status_start s.status;
      kept_epoch = unwrap_or s.kept_epoch 0;
      epoch = status_epoch s.status;
      adopted = is_some s.kept_epoch;
      status = status_number s.status;
      leader = status_leader s.status;
    }

abbrev pub epoch_out : Option EpochEnd → EpochOut
epoch_out None = record { end = 0; epoch = 0; found = false }
epoch_out (Some e) = record { end = e.end; epoch = e.epoch; found = true }

abbrev pub time_out : Option OffsetAndTimestamp → TimeOut
time_out None = record { offset = 0; timestamp = 0; found = false }
time_out (Some t) = record { offset = t.offset; timestamp = t.timestamp; found = true }
