-- What an action of one node leaves, and what only a leader and only a follower does. An action is said of the controller's
-- record, the node's own state and what it was handed, and of no other node (own). It leaves the record as it is.
use Rattle.std.specs.Prelude.{ℕ, Bool, true, false, List, [], ◌∷◌, Option, Some, None}
use Rattle.kp_types.specs.declared.refusal.Refusal.{Refusal}
use Rattle.kp_types.specs.declared.refusal.Refusal.TheVariants as refusals
use Rattle.kp_model.specs.World.{Leading, Following, Mode, Down, Idle, Leads, Follows, Node, Message}
use Rattle.kp_model.specs.Event.{Reply}

-- ---- a node

abbrev pub mode_epoch : Mode → Option ℕ
mode_epoch Down = None
mode_epoch Idle = None
mode_epoch (Leads l) = Some l.epoch
mode_epoch (Follows f) = Some f.epoch

abbrev pub is_down : Mode → Bool
is_down Down = true
is_down _ = false

-- ---- what an action leaves

-- the node's new state, the messages that the node sends, and its reply
pub record Effect : Type 0 where
  pub node : Node
  pub sent : List Message
  pub reply : Reply

-- only the node changes
abbrev pub becomes : Node → Reply → Effect
becomes x reply = record { node = x; sent = []; reply = reply }

-- the node sends a message besides
abbrev pub sends : Node → Message → Reply → Effect
sends x m reply = record { node = x; sent = m ∷ []; reply = reply }

-- ---- what only a leader does, and what only a follower does

abbrev pub unless_leads : Mode → (Leading → Option Refusal) → Option Refusal
unless_leads Down cause = Some refusals.Down
unless_leads Idle cause = Some refusals.NotLeader
unless_leads (Leads l) cause = cause l
unless_leads (Follows f) cause = Some refusals.NotLeader

abbrev pub WhereLeads : Mode → (Leading → Type 0) → Type 0
WhereLeads (Leads l) P = P l
WhereLeads _ P = ⊥

abbrev pub WhereFollows : Mode → (Following → Type 0) → Type 0
WhereFollows (Follows f) P = P f
WhereFollows _ P = ⊥
