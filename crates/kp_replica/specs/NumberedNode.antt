-- A node of the model with its number, and what it is that a call does.
use Rattle.std.specs.Prelude.{◌≡◌, ℕ, ◌+◌, ◌<◌, ◌≤◌, ◌^◌, List, Some, unwrap_or}
use Rattle.kp_types.specs.declared.limits.Limits.{Limits}
use Rattle.kp_model.specs.Log.{Batch, IsBoundary}
use Rattle.kp_model.specs.World.{LeaderAndIsr, Mode, Leads, Node, report_of}
use Rattle.kp_model.specs.Event.{Act, Reply}
use Rattle.kp_model.specs.Fetching.{last_epoch}
use Rattle.kp_model.specs.Calls.{DoesUnder as NodeDoesUnder}

-- a node's number, the limits of its log, and its state
pub record NumberedNode : Type 0 where
  pub number : ℕ
  pub limits : Limits
  pub state : Node

-- the same node in another state
abbrev pub IsSameNode : NumberedNode → NumberedNode → Type 0
IsSameNode old new = (new.number ≡ old.number) × (new.limits ≡ old.limits)

-- Under this record of the controller the node did this, replied so, and became what it is now.
abbrev pub DoesUnder : LeaderAndIsr → NumberedNode → NumberedNode → Act → Reply → Type 0
DoesUnder controller old new act reply = NodeDoesUnder controller old.number old.state new.state act reply × IsSameNode old new

-- The node did this, whatever the controller's record was.
abbrev pub Does : NumberedNode → NumberedNode → Act → Reply → Type 0
Does old new act reply = (controller : LeaderAndIsr) → DoesUnder controller old new act reply

-- A leader's log has no epoch above the leader's own, which is one that a record has.
abbrev pub HasEpochs : List Batch → Mode → Type 0
HasEpochs log (Leads l) = (unwrap_or (last_epoch log) 0 ≤ l.epoch) × (l.epoch + 1 < 2 ^ 24)
HasEpochs log _ = Unit {0}

-- What a node reported to the leader is a boundary of the leader's log.
abbrev pub HasReports : List Batch → Mode → Type 0
HasReports log (Leads l) = (m end : ℕ) → report_of l m ≡ Some end → IsBoundary log end
HasReports log _ = Unit {0}

-- A leader has a number that a record can name, and knows a version that one can have.
abbrev pub IsOfRecord : ℕ → Mode → Type 0
IsOfRecord n (Leads l) = (n < 7) × (l.version < 2 ^ 28)
IsOfRecord n _ = Unit {0}
