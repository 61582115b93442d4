-- What a worker has its node do with a parcel (own rule), each call by the node's own relation.
use Rattle.std.specs.Prelude.{◌≡◌, ℕ, Option, Some, None, Result, Ok, Err, MatchResult, ⊤}
use Rattle.kp_types.specs.declared.refusal.Refusal.{Refusal}
use Rattle.kp_types.specs.declared.refusal.Refusal.TheVariants.{Down, NotLeader, StaleRecord}
use Rattle.kp_replica.specs.declared.adopting.Role.{Role}
use Rattle.kp_replica.specs.declared.act.Answer.{Answer}
use Rattle.kp_board.specs.Posts.{Posted}
use Rattle.kp_node.specs.MessageCalls.{Asks, Steps}
use Rattle.kp_node.specs.NodeCalls.{Adopts, Raises, Restarts}
use Rattle.kp_node.specs.Seated.{SeatedNode}

-- ---- what is left of an answer where one refusal is passed over

abbrev pub unless_down : {A : Type 0} → Result A Refusal → Result ⊤ Refusal
unless_down (Ok x) = Ok tt
unless_down (Err Down) = Ok tt
unless_down (Err r) = Err r

abbrev pub unless_stale : {A : Type 0} → Result A Refusal → Result ⊤ Refusal
unless_stale (Ok x) = Ok tt
unless_stale (Err StaleRecord) = Ok tt
unless_stale (Err r) = Err r

abbrev pub nothing_sent : {A : Type 0} → Result A Refusal → Result (Option Posted) Refusal
nothing_sent (Ok x) = Ok None
nothing_sent (Err NotLeader) = Ok None
nothing_sent (Err r) = Err r

-- ---- a turn: these calls in a row, of which the first that is refused is the last

-- the node is brought up by a restart, of which it is no fault that it wasn't down
abbrev pub BringsUp : SeatedNode → SeatedNode → Result ⊤ Refusal → Type 0
BringsUp old new reply = (restarted : Result Answer Refusal) × Restarts old new restarted × (reply ≡ unless_down restarted)

-- it adopts, of which it is no fault that it knows the record
abbrev pub CatchesUp : SeatedNode → SeatedNode → Result ⊤ Refusal → Type 0
CatchesUp old new reply = (adopted : Result Role Refusal) × Adopts old new adopted × (reply ≡ unless_stale adopted)

-- a node that didn't ask since it follows nobody raises its high watermark if it leads
abbrev pub RaisesAfter : Refusal → SeatedNode → SeatedNode → Result (Option Posted) Refusal → Type 0
RaisesAfter NotLeader old new reply = (raised : Result ℕ Refusal) × Raises old new raised × (reply ≡ nothing_sent raised)
RaisesAfter r old new reply = (new ≡ old) × (reply ≡ Err r)

abbrev pub AsksOrRaises : SeatedNode → SeatedNode → Result (Option Posted) Refusal → Type 0
AsksOrRaises old new reply = (asked : Result Posted Refusal) × (between : SeatedNode) × Asks old between asked
    × MatchResult asked (λ m. (new ≡ between) × (reply ≡ Ok (Some m))) (λ r. RaisesAfter r between new reply)

abbrev pub CatchesUpAndAsks : SeatedNode → SeatedNode → Result (Option Posted) Refusal → Type 0
CatchesUpAndAsks old new reply = (caught : SeatedNode) × (told : Result ⊤ Refusal) × CatchesUp old caught told
    × MatchResult told (λ _. AsksOrRaises caught new reply) (λ r. (new ≡ caught) × (reply ≡ Err r))

abbrev pub TakesTurn : SeatedNode → SeatedNode → Result (Option Posted) Refusal → Type 0
TakesTurn old new reply = (up : SeatedNode) × (told : Result ⊤ Refusal) × BringsUp old up told
    × MatchResult told (λ _. CatchesUpAndAsks up new reply) (λ r. (new ≡ up) × (reply ≡ Err r))

-- a parcel that is handled: a message by a step, none by a turn
abbrev pub Handles : Option Posted → SeatedNode → SeatedNode → Result (Option Posted) Refusal → Type 0
Handles (Some came) old new reply = Steps came old new reply
Handles None old new reply = TakesTurn old new reply
