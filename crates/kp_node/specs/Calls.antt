-- What a call of a node with a pass is (own rule).
use Rattle.std.specs.Prelude.{◌≡◌, ℕ, IsTrue, if◌then◌else◌, Some, Result, Ok, Err}
use Rattle.kp_types.specs.declared.refusal.Refusal.{Refusal}
use Rattle.kp_types.specs.declared.refusal.Refusal.TheVariants.{Down, StaleAnswer}
use Rattle.kp_model.specs.Epochs.{covers}
use Rattle.kp_model.specs.World.{LeaderAndIsr, Node, Message}
use Rattle.kp_model.specs.Event.{Act, Reply, Refused, Stopped}
use Rattle.kp_model.specs.Letter.{FetchLetter, Letter, fetch_answer, letter_of}
use Rattle.kp_model.specs.Effect.{is_down, sends}
use Rattle.kp_model.specs.Local.{Local, receive_cause}
use Rattle.kp_model.specs.Calls.{cut, sent_reply}
use Rattle.kp_model.specs.declared.message.Answered.{Answered}
use Rattle.kp_model.specs.declared.message.Answered.TheVariants.{Batches, Diverging}
use Rattle.kp_model.specs.declared.message.MessageBody.{MessageBody}
use Rattle.kp_model.specs.declared.message.MessageBody.TheVariants.{FetchRequest, FetchAnswer, Decision}
use Rattle.kp_replica.specs.NumberedNode.{NumberedNode, DoesUnder, IsSameNode}
use Rattle.kp_replica.specs.Replies.{cut_reply, learned_reply, taken_reply}
use Rattle.kp_replica.specs.declared.altering.Learned.{Learned}
use Rattle.kp_replica.specs.declared.cutting.CutBack.{CutBack}
use Rattle.kp_replica.specs.declared.taking.Taken.{Taken}

-- No node takes in such a message: whatever its state and the record, it refuses it as one that isn't for it, F28 where it is down.
abbrev pub IsMisplaced : Message → Type 0
IsMisplaced m = (c : LeaderAndIsr) (n : ℕ) (x : Node) → receive_cause c n x m ≡ Some (if is_down x.mode then Down else StaleAnswer)

abbrev pub stop_reply : Result (Unit {0}) Refusal → Reply
stop_reply (Ok done) = Stopped
stop_reply (Err refusal) = Refused refusal

-- Node n, which was x and is y now, did this and sent this very message, which has this letter, whatever the record was.
abbrev pub SentBy : ℕ → Node → Node → Act → Message → Letter → Type 0
SentBy n x y act message letter =
    (letter_of message ≡ letter) × ((c : LeaderAndIsr) → Local c n x act (sends y message (sent_reply letter)))

abbrev pub Sent : NumberedNode → NumberedNode → Act → Message → Letter → Type 0
Sent old new act message letter = SentBy old.number old.state new.state act message letter × IsSameNode old new

-- Under this record the node took in what was answered: batches, or where its log was to be cut.
abbrev pub WasFollowed : Answered → LeaderAndIsr → NumberedNode → NumberedNode → Act → Type 0
WasFollowed (Batches fetched) c old new act = (taken : Taken) × DoesUnder c old new act (taken_reply (Ok taken))
WasFollowed (Diverging end) c old new act = (back : CutBack) × DoesUnder c old new act (cut_reply (Ok back))

-- What came was taken in: an answer, or a decision, from which a leader learned. A request and a proposal never are.
abbrev pub WasTaken : MessageBody → LeaderAndIsr → NumberedNode → NumberedNode → Act → Type 0
WasTaken (FetchAnswer a) c old new act = WasFollowed a.answered c old new act
WasTaken (Decision d) c old new act = (learned : Learned) × DoesUnder c old new act (learned_reply (Ok learned))
WasTaken _ c old new act = ⊥

-- Who takes in this message may want memory: for an answer to a request that the leader's log covers, and for an answer's batches.
abbrev pub HasBatches : Answered → Type 0
HasBatches (Batches fetched) = Unit {0}
HasBatches (Diverging end) = ⊥

abbrev pub WantsMemory : MessageBody → NumberedNode → Type 0
WantsMemory (FetchRequest r) x = IsTrue (covers x.state.log r.offset r.last_epoch)
WantsMemory (FetchAnswer a) x = HasBatches a.answered
WantsMemory _ x = ⊥

-- what a diverging answer with this letter leaves under this record, by the place where it cuts (KIP-101, KIP-279)
abbrev pub CutsBack : Answered → FetchLetter → LeaderAndIsr → NumberedNode → NumberedNode → Type 0
CutsBack (Diverging end) letter c old new = new.state ≡ (cut c old.number old.state letter).node
CutsBack (Batches fetched) letter c old new = Unit {0}

abbrev pub CutsTo : MessageBody → LeaderAndIsr → NumberedNode → NumberedNode → Type 0
CutsTo (FetchAnswer a) c old new = CutsBack a.answered (fetch_answer a) c old new
CutsTo _ c old new = Unit {0}
