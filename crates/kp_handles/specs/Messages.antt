-- What each call of handles does that sends a message or takes one (own rule).
use Rattle.std.specs.Prelude.{◌≡◌, ◌⊎◌, ℕ, true, Option, Some, None, Result, Ok, Err}
use Rattle.std.specs.Global.{Box}
use Rattle.kp_types.specs.declared.refusal.Refusal.{Refusal}
use Rattle.kp_types.specs.declared.refusal.Refusal.TheVariants.{Memory}
use Rattle.kp_model.specs.Letter.{letter}
use Rattle.kp_model.specs.World.{Message as ModelMessage}
use Rattle.kp_model.specs.declared.message.MessageBody.{MessageBody}
use Rattle.kp_board.specs.Calls.{DecidesOn}
use Rattle.kp_board.specs.Posts.{Posted}
use Rattle.kp_board.specs.Views.{CallerView}
use Rattle.kp_node.specs.MessageCalls.{Alters, Asks, Steps}
use Rattle.kp_node.specs.Seated.{SeatedNode}
use Rattle.kp_replica.specs.declared.altering.IsrChange.{IsrChange}
use Rattle.kp_handles.specs.Called.{NodeGives}
use Rattle.kp_handles.specs.Objects.{ObjectView, caller, is_open, message, node}
use Rattle.kp_handles.specs.declared.misuse.Misuse.{Misuse}
use Rattle.kp_handles.specs.declared.misuse.Misuse.TheVariants.{Closed, InUse, NoRoom, OtherKind}

abbrev pub holds : Posted → ObjectView
holds m = message m.body m.pass

-- a node proposed this change of the in-sync replicas, or asked its leader where there is none
abbrev pub Sends : Option IsrChange → SeatedNode → SeatedNode → Result Posted Refusal → Type 0
Sends None = Asks
Sends (Some change) = Alters change

-- a node sent a message, which stands in a handle that was closed; or it refused to, and the handle is as it was
abbrev pub SendCalled : (old new out wrote : Option ObjectView) → Result (Result (Unit {0}) Refusal) Misuse → (SeatedNode → SeatedNode → Result Posted Refusal → Type 0) → Type 0
SendCalled old new out wrote done P = NodeGives holds P old new out wrote done

-- what a message's handle holds after it was used up: the answer, or nothing
abbrev pub handle_left : Option Posted → Option ObjectView
handle_left (Some m) = Some (holds m)
handle_left None = None

abbrev pub answer_of : Result (Option Posted) Refusal → Option Posted
answer_of (Ok o) = o
answer_of (Err refusal) = None

abbrev pub some_of : Result Posted Refusal → Result (Option Posted) Refusal
some_of (Ok m) = Ok (Some m)
some_of (Err refusal) = Err refusal

abbrev pub refusal_of : {X : Type 0} → Result X Refusal → Result (Unit {0}) Refusal
refusal_of (Ok x) = Ok tt
refusal_of (Err refusal) = Err refusal

-- A node, which was x and is y now, took this message: so it answered, and this is left of the message.
unfoldable pub Took : Posted → SeatedNode → SeatedNode → Option ObjectView → Result (Unit {0}) Refusal → Type 0
Took m x y left done = (answer : Result (Option Posted) Refusal) × (left ≡ handle_left (answer_of answer)) × (done ≡ refusal_of answer) × Steps m x y answer

-- The controller decided on this message with this pass: so it answered, and this is left of the message.
unfoldable pub Decided : Posted → CallerView → CallerView → Option ObjectView → Result (Unit {0}) Refusal → Type 0
Decided m c d left done = (answer : Result Posted Refusal) × (left ≡ handle_left (answer_of (some_of answer))) × (done ≡ refusal_of answer) × DecidesOn m c d answer

-- A message came to a node; or they weren't those, and nothing has changed.
abbrev pub StepMet : (old new letter : ObjectView) → (left : Option ObjectView) → Result (Result (Unit {0}) Refusal) Misuse → Type 0
StepMet old new letter left (Ok done) =
    (x : SeatedNode) × (y : SeatedNode) × (body : MessageBody) × (pass : ModelMessage) × (old ≡ node x) × (new ≡ node y)
    × (letter ≡ message body pass) × Took (record { body = body; pass = pass }) x y left done
StepMet old new letter left (Err why) =
    (why ≡ OtherKind) × (new ≡ old) × (left ≡ Some letter)
    × ((x : SeatedNode) → (body : MessageBody) → (pass : ModelMessage) → old ≡ node x → letter ≡ message body pass → ⊥)

abbrev pub BadStep : Option ObjectView → Option ObjectView → Misuse → Type 0
BadStep old letter Closed = (old ≡ None) ⊎ (letter ≡ None)
BadStep old letter OtherKind =
    (is_open old ≡ true) × (is_open letter ≡ true)
    × ((x : SeatedNode) → (body : MessageBody) → (pass : ModelMessage) → old ≡ Some (node x) → letter ≡ Some (message body pass) → ⊥)
BadStep old letter _ = ⊥

abbrev pub StepCalled : (old new letter after : Option ObjectView) → Result (Result (Unit {0}) Refusal) Misuse → Type 0
StepCalled old new letter after (Ok done) =
    (x : SeatedNode) × (y : SeatedNode) × (body : MessageBody) × (pass : ModelMessage) × (left : Option ObjectView)
    × (old ≡ Some (node x)) × (new ≡ Some (node y)) × (letter ≡ Some (message body pass))
    × Took (record { body = body; pass = pass }) x y left done × (after ≡ left)
StepCalled old new letter after (Err why) = (new ≡ old) × (after ≡ letter) × BadStep old letter why

-- The controller decided on a message, with a caller's pass; or they weren't those, and nothing has changed.
abbrev pub DecideMet : (old new letter : ObjectView) → (left : Option ObjectView) → Result (Result (Unit {0}) Refusal) Misuse → Type 0
DecideMet old new letter left (Ok done) =
    (n : ℕ) × (c : CallerView) × (d : CallerView) × (body : MessageBody) × (pass : ModelMessage) × (old ≡ caller n c) × (new ≡ caller n d)
    × (letter ≡ message body pass) × Decided (record { body = body; pass = pass }) c d left done
DecideMet old new letter left (Err why) =
    (why ≡ OtherKind) × (new ≡ old) × (left ≡ Some letter)
    × ((n : ℕ) → (c : CallerView) → (body : MessageBody) → (pass : ModelMessage) → old ≡ caller n c → letter ≡ message body pass → ⊥)

abbrev pub BadDecide : Option ObjectView → Option ObjectView → Misuse → Type 0
BadDecide old letter Closed = (old ≡ None) ⊎ (letter ≡ None)
BadDecide old letter OtherKind =
    (is_open old ≡ true) × (is_open letter ≡ true)
    × ((n : ℕ) → (c : CallerView) → (body : MessageBody) → (pass : ModelMessage) → old ≡ Some (caller n c) → letter ≡ Some (message body pass) → ⊥)
BadDecide old letter _ = ⊥

abbrev pub DecideCalled : (old new letter after : Option ObjectView) → Result (Result (Unit {0}) Refusal) Misuse → Type 0
DecideCalled old new letter after (Ok done) =
    (n : ℕ) × (c : CallerView) × (d : CallerView) × (body : MessageBody) × (pass : ModelMessage) × (left : Option ObjectView)
    × (old ≡ Some (caller n c)) × (new ≡ Some (caller n d)) × (letter ≡ Some (message body pass))
    × Decided (record { body = body; pass = pass }) c d left done × (after ≡ left)
DecideCalled old new letter after (Err why) = (new ≡ old) × (after ≡ letter) × BadDecide old letter why

-- a caller's pass, which gives the board alone, and a message
abbrev pub AreCallerAndMessage : (old said : Option ObjectView) → Type 0
AreCallerAndMessage old said =
    (n : ℕ) × (c : CallerView) × (body : MessageBody) × (pass : ModelMessage) × (old ≡ Some (caller n c)) × (said ≡ Some (message body pass))

abbrev pub BadRepeat : (old said out : Option ObjectView) → Misuse → Type 0
BadRepeat old said out InUse = is_open out ≡ true
BadRepeat old said out NoRoom = AreCallerAndMessage old said × (out ≡ None)
BadRepeat old said out why = BadDecide old said why

-- The message stands once more, in a handle that was closed: it says the same, and its pass shows the same. Or that was refused, for memory.
abbrev pub RepeatCalled : (old said out wrote : Option ObjectView) → Result (Result (Unit {0}) Refusal) Misuse → Type 0
RepeatCalled old said out wrote (Ok (Ok done)) =
    (n : ℕ) × (c : CallerView) × (body : MessageBody) × (pass : ModelMessage) × (again : MessageBody) × (old ≡ Some (caller n c))
    × (said ≡ Some (message body pass)) × (out ≡ None) × (letter again ≡ letter body) × (wrote ≡ Some (message again pass))
RepeatCalled old said out wrote (Ok (Err refusal)) = AreCallerAndMessage old said × (wrote ≡ out) × (refusal ≡ Memory)
RepeatCalled old said out wrote (Err why) = (wrote ≡ out) × BadRepeat old said out why

-- what was made of a message with this body and this pass
abbrev pub IsRepeated : MessageBody → ModelMessage → Result (Box ObjectView) Refusal → Type 0
IsRepeated body pass (Ok made) = (again : MessageBody) × (letter again ≡ letter body) × (made.value ≡ message again pass)
IsRepeated body pass (Err refusal) = refusal ≡ Memory
