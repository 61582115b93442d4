-- What calls read from their caller's memory, and write there (own rule).
use Rattle.std.specs.Prelude.{◌≡◌, ℕ, Bool, true, false, List, Option, Some, None, Result, Ok, Err, unwrap_or}
use Rattle.kp_types.specs.declared.limits.Limits.{Limits}
use Rattle.kp_types.specs.Texts.{place_of}
use Rattle.kp_types.specs.declared.refusal.Refusal.{Refusal}
use Rattle.kp_marker.specs.declared.parts.Kind.{Kind}
use Rattle.kp_marker.specs.declared.parts.Kind.TheVariants.{Abort, Commit}
use Rattle.kp_marker.specs.declared.parts.Marker.{Marker}
use Rattle.kp_model.specs.declared.record.LeaderAndIsr.{LeaderAndIsr}
use Rattle.kp_model.specs.declared.record.Leader.{Leader}
use Rattle.kp_replica.specs.declared.act.Answer.{Answer}
use Rattle.kp_replica.specs.declared.act.Answer.TheVariants.{Restarted}
use Rattle.kp_node.specs.declared.ack.Ack.{Ack}
use Rattle.kp_node.specs.declared.ack.Ack.TheVariants.{Yes, Lost, NotYet}
use Rattle.kp_node.specs.declared.fetched.Isolation.{Isolation}
use Rattle.kp_node.specs.declared.fetched.Isolation.TheVariants.{ReadUncommitted, ReadCommitted}
use Rattle.kp_replica.specs.declared.altering.IsrChange.{IsrChange}
use Rattle.kp_replica.specs.declared.altering.IsrChange.TheVariants.{Join, Leave}
use Rattle.kp_replica.specs.declared.producing.Receipt.{Receipt}
use Rattle.kp_replica.specs.declared.adopting.Role.{Role}
use Rattle.kp_replica.specs.declared.adopting.Role.TheVariants.{Leads, Follows}
use Rattle.kp_handles.specs.declared.misuse.Misuse.{Misuse}
use Rattle.kp_handles.specs.declared.outs.LimitsIn.{LimitsIn}
use Rattle.kp_handles.specs.declared.outs.MarkerIn.{MarkerIn}
use Rattle.kp_handles.specs.declared.outs.ReceiptOut.{ReceiptOut}
use Rattle.kp_handles.specs.declared.outs.LeadershipOut.{LeadershipOut}
use Rattle.kp_handles.specs.declared.outs.RestartOut.{RestartOut}
use Rattle.kp_handles.specs.declared.outs.RoleOut.{RoleOut}

abbrev pub limits_in : LimitsIn → Limits
limits_in l = record { segment_bytes = l.segment_bytes; index_interval = l.index_interval; max_batch = l.max_batch }

abbrev pub role_out : Role → RoleOut
role_out (Leads epoch start) = record { start = start; epoch = epoch; leader = 0; leads = true }
role_out (Follows leader epoch) = record { start = 0; epoch = epoch; leader = leader; leads = false }

abbrev pub leader_out : (version : ℕ) → (members : List Bool) → Option Leader → LeadershipOut
leader_out version members (Some l) = record { version = version; epoch = l.epoch; leader = l.node; elected = true; in_sync = members }
leader_out version members None = record { version = version; epoch = 0; leader = 0; elected = false; in_sync = members }

abbrev pub leadership_out : LeaderAndIsr → LeadershipOut
leadership_out r = leader_out r.version r.isr.members r.leader

abbrev pub restart_out : Answer → RestartOut
restart_out (Restarted life end watermark) = record { life = life; end = end; watermark = watermark }
restart_out _ = record { life = 0; end = 0; watermark = 0 }

abbrev pub receipt_out : Receipt → ReceiptOut
receipt_out r = record { base = r.base; last = r.last; place = 0; epoch = r.epoch; duplicate = r.duplicate }

abbrev pub receipt_in : ReceiptOut → Receipt
receipt_in r = record { base = r.base; last = r.last; epoch = r.epoch; duplicate = r.duplicate }

-- what stands in a receipt's memory after a refusal: the place that the refusal names, where it names one
abbrev pub refused_at : Refusal → ReceiptOut → ReceiptOut
refused_at refusal r = record r { place = unwrap_or (place_of refusal) 0 }

abbrev pub kind_in : Bool → Kind
kind_in true = Commit
kind_in false = Abort

abbrev pub marker_in : MarkerIn → Marker
marker_in m = record {
  producer_id = m.producer_id;
  producer_epoch = m.producer_epoch;
  coordinator_epoch = m.coordinator_epoch;
  kind = kind_in m.commits;
  timestamp = m.timestamp;
}

abbrev pub ack_out : Ack → ℕ
ack_out NotYet = 0
ack_out Yes = 1
ack_out Lost = 2

abbrev pub isolation_in : Bool → Isolation
isolation_in true = ReadCommitted
isolation_in false = ReadUncommitted

abbrev pub change_in : Bool → ℕ → IsrChange
change_in true node = Join node
change_in false node = Leave node

-- ---- what stands behind a parameter then

-- what was answered, in the caller's words; a call that was refused or not made leaves it as it was
abbrev pub WritesOut : {X Y : Type 0} → (X → Y) → Result (Result X Refusal) Misuse → (old new : Y) → Type 0
WritesOut out (Ok (Ok x)) old new = new ≡ out x
WritesOut out (Ok (Err refusal)) old new = new ≡ old
WritesOut out (Err why) old new = new ≡ old

-- a node's watermark, where there is such a node
abbrev pub WritesMark : Result (Result (Option ℕ) Refusal) Misuse → (old new : ℕ) → Type 0
WritesMark (Ok (Ok (Some mark))) old new = new ≡ mark
WritesMark (Ok (Ok None)) old new = new ≡ old
WritesMark (Ok (Err refusal)) old new = new ≡ old
WritesMark (Err why) old new = new ≡ old

-- a receipt, or the place that a refusal names
abbrev pub WritesReceipt : Result (Result Receipt Refusal) Misuse → (old new : ReceiptOut) → Type 0
WritesReceipt (Ok (Ok r)) old new = new ≡ receipt_out r
WritesReceipt (Ok (Err refusal)) old new = new ≡ refused_at refusal old
WritesReceipt (Err why) old new = new ≡ old
