-- What is kept of a run's last stage (own rule).
use Rattle.std.specs.Prelude.{ℕ, ◌^◌, nat_lt, List, [], ◌∷◌, Option, Some, None, if◌then◌else◌}
use Rattle.kp_types.specs.Folders.{Entry, Puts, PutsFront}
use Rattle.kp_folder.specs.Kept.{KeepsRun, KeepsRunFront}
use Rattle.kp_replica.specs.NumberedNode.{NumberedNode}
use Rattle.kp_world.specs.Shown.{Stage, next_number}

-- how many messages were sent, which is told where it is a number that a script can name
abbrev pub messages_kept : Stage → Option ℕ
messages_kept stage = if nat_lt (next_number stage) (2 ^ 31) then Some (next_number stage) else None

-- where there are nodes
abbrev pub KeepsNodes : List NumberedNode → Stage → Option (List Entry) → Option (List Entry) → Type 0
KeepsNodes [] stage old new = Puts old new []
KeepsNodes (m ∷ ms) stage old new = KeepsRun stage.controller stage.nodes (messages_kept stage) old new

abbrev pub KeepsNodesFront : List NumberedNode → Stage → Option (List Entry) → Option (List Entry) → Type 0
KeepsNodesFront [] stage old new = PutsFront old new []
KeepsNodesFront (m ∷ ms) stage old new = KeepsRunFront stage.controller stage.nodes (messages_kept stage) old new

-- The controller's record, and each node's log and state, have come behind the known entries; nothing where there is no node.
abbrev pub KeepsStage : Stage → Option (List Entry) → Option (List Entry) → Type 0
KeepsStage stage = KeepsNodes stage.nodes stage

-- or a beginning of the record and of the first nodes
abbrev pub KeepsStageFront : Stage → Option (List Entry) → Option (List Entry) → Type 0
KeepsStageFront stage = KeepsNodesFront stage.nodes stage
