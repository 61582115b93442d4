-- How a host opens again what a process has left (own rule).
use Rattle.std.specs.Prelude.{◌≡◌, ◌⊎◌, ℕ, ◌≤◌, true, List, length, Option, Some, None, Result, Ok, Err}
use Rattle.kp_types.specs.declared.refusal.Refusal.{Refusal}
use Rattle.kp_types.specs.declared.refusal.Refusal.TheVariants.{Memory}
use Rattle.kp_model.specs.Controller.{elected}
use Rattle.kp_model.specs.Set.{record_of}
use Rattle.kp_model.specs.Step.{decide_cause, decided_on, elect_cause}
use Rattle.kp_model.specs.Letter.{proposal_of}
use Rattle.kp_model.specs.World.{LeaderAndIsr as ModelRecord, Message as ModelMessage, Proposal as ModelProposal}
use Rattle.kp_model.specs.declared.message.MessageBody.TheVariants.{Proposal}
use Rattle.kp_model.specs.declared.message.Proposal.{Proposal as SaidProposal}
use Rattle.kp_model.specs.declared.record.LeaderAndIsr.{LeaderAndIsr}
use Rattle.kp_board.specs.Opening.{BoardId}
use Rattle.kp_node.specs.Again.{WereLeft, opening_of}
use Rattle.kp_node.specs.Seats.{left_seats}
use Rattle.kp_handles.specs.Left.{KeepsNode, KeepsNone, LeftView, promised_of}
use Rattle.kp_handles.specs.Objects.{ObjectView, cluster, is_open, left, message}
use Rattle.kp_handles.specs.Outs.{leadership_out}
use Rattle.kp_handles.specs.declared.left.KeptIn.{KeptIn}
use Rattle.kp_handles.specs.declared.left.PromiseIn.{PromiseIn}
use Rattle.kp_handles.specs.declared.misuse.Misuse.{Misuse}
use Rattle.kp_handles.specs.declared.misuse.Misuse.TheVariants.{Closed, OtherKind, InUse, NoRoom, OutOfRange}
use Rattle.kp_handles.specs.declared.outs.LeadershipOut.{LeadershipOut}

-- ---- a node's log is read back

-- why it wasn't tried
abbrev pub BadKeep : Option ObjectView → Misuse → Type 0
BadKeep old Closed = old ≡ None
BadKeep old OtherKind = (is_open old ≡ true) × ((x : LeftView) → old ≡ Some (left x) → ⊥)
BadKeep old OutOfRange = (x : LeftView) × (old ≡ Some (left x)) × (7 ≤ length x.nodes)
BadKeep old _ = ⊥

abbrev pub KeepCalled : List ℕ → KeptIn → Option ObjectView → Option ObjectView → Result (Result (Unit {0}) Refusal) Misuse → Type 0
KeepCalled bytes k old new (Ok (Ok done)) =
    (x : LeftView) × (y : LeftView) × (old ≡ Some (left x)) × (new ≡ Some (left y)) × KeepsNode bytes k x y
KeepCalled bytes k old new (Ok (Err refusal)) =
    (new ≡ old) × (x : LeftView) × (old ≡ Some (left x)) × ((refusal ≡ Memory) ⊎ KeepsNone bytes k x refusal)
KeepCalled bytes k old new (Err why) = (new ≡ old) × BadKeep old why

-- ---- what the record becomes

-- what the record that is told becomes by this node's election, or why it can't; or it tells no record
abbrev pub NextElected : LeadershipOut → (node : ℕ) → Result (Result LeaderAndIsr Refusal) Misuse → Type 0
NextElected known node (Ok (Ok next)) =
    (r : LeaderAndIsr) × (known ≡ leadership_out r) × (elect_cause (record_of r) node ≡ None) × (record_of next ≡ elected (record_of r) node)
NextElected known node (Ok (Err refusal)) = (r : LeaderAndIsr) × (known ≡ leadership_out r) × (elect_cause (record_of r) node ≡ Some refusal)
NextElected known node (Err OutOfRange) = (r : LeaderAndIsr) → known ≡ leadership_out r → ⊥
NextElected known node (Err why) = ⊥

-- what it becomes by a decision on this proposal, or why it can't
abbrev pub DecidesNext : ModelRecord → ModelProposal → Result LeaderAndIsr Refusal → Type 0
DecidesNext c p (Ok next) = (decide_cause c p ≡ None) × (record_of next ≡ decided_on c p)
DecidesNext c p (Err refusal) = decide_cause c p ≡ Some refusal

abbrev pub IsProposal : Option ObjectView → SaidProposal → Type 0
IsProposal object p = (pass : ModelMessage) × (object ≡ Some (message (Proposal p) pass))

-- and on the proposal that a handle holds
abbrev pub NextDecided : LeadershipOut → Option ObjectView → Result (Result LeaderAndIsr Refusal) Misuse → Type 0
NextDecided known object (Ok answer) =
    (r : LeaderAndIsr) × (p : SaidProposal) × (known ≡ leadership_out r) × IsProposal object p × DecidesNext (record_of r) (proposal_of p) answer
NextDecided known object (Err Closed) = object ≡ None
NextDecided known object (Err OtherKind) = (is_open object ≡ true) × ((p : SaidProposal) → IsProposal object p → ⊥)
NextDecided known object (Err OutOfRange) = (r : LeaderAndIsr) → known ≡ leadership_out r → ⊥
NextDecided known object (Err why) = ⊥

-- ---- a cluster is opened with what was read back

-- why no place for nodes was opened
abbrev pub BadLeave : Option ObjectView → Misuse → Type 0
BadLeave old InUse = is_open old ≡ true
BadLeave old NoRoom = old ≡ None
BadLeave old _ = ⊥

-- The host's premise: some process has left these nodes with this record, and some node of it had held what is promised.
abbrev pub MayOpenAgain : LeadershipOut → PromiseIn → Option ObjectView → Type 0
MayOpenAgain known p old =
    (x : LeftView) (r : LeaderAndIsr) → old ≡ Some (left x) → known ≡ leadership_out r → WereLeft (record_of r) x.nodes (promised_of p x.nodes)

-- The cluster has these nodes, each down and not open yet, and its run goes on from the one that left them.
abbrev pub OpensAgain : LeadershipOut → PromiseIn → LeftView → Option ObjectView → BoardId → Type 0
OpensAgain known p x opened table =
    (r : LeaderAndIsr) × (known ≡ leadership_out r) × (table.opening ≡ opening_of (record_of r) x.nodes (promised_of p x.nodes))
    × (opened ≡ Some (cluster (length x.nodes) (left_seats table.opening 0 x.nodes) 0))

-- the handle holds no nodes that were read back
abbrev pub HoldsNoneLeft : Option ObjectView → Misuse → Type 0
HoldsNoneLeft old Closed = old ≡ None
HoldsNoneLeft old OtherKind = (is_open old ≡ true) × ((x : LeftView) → old ≡ Some (left x) → ⊥)
HoldsNoneLeft old _ = ⊥

-- why nothing was opened
abbrev pub BadAgain : LeadershipOut → (old out : Option ObjectView) → Misuse → Type 0
BadAgain known old out InUse = is_open out ≡ true
BadAgain known old out OutOfRange = (r : LeaderAndIsr) → known ≡ leadership_out r → ⊥
BadAgain known old out why = HoldsNoneLeft old why

-- Once it is tried, the nodes are no longer where they were read back.
abbrev pub AgainCalled : LeadershipOut → PromiseIn → (old new out opened : Option ObjectView) → BoardId → Result (Result (Unit {0}) Refusal) Misuse → Type 0
AgainCalled known p old new out opened table (Ok (Ok done)) =
    (x : LeftView) × (old ≡ Some (left x)) × (new ≡ None) × (out ≡ None) × OpensAgain known p x opened table
AgainCalled known p old new out opened table (Ok (Err refusal)) =
    (x : LeftView) × (old ≡ Some (left x)) × (new ≡ None) × (opened ≡ out) × (refusal ≡ Memory)
AgainCalled known p old new out opened table (Err why) = (new ≡ old) × (opened ≡ out) × BadAgain known old out why
