-- What is told of events as the definitions' outcomes.
use Rattle.std.specs.Prelude.{◌≡◌, ℕ, Result, Ok, Err, Option, Some, None}
use Rattle.kp_types.specs.declared.refusal.Refusal.{Refusal}
use Rattle.kp_model.specs.Calls.{said_reply, sent_reply}
use Rattle.kp_model.specs.Event.{Reply, Refused, Changed as RecordChanged, Outcome}
use Rattle.kp_model.specs.Letter.{Letter, letter}
use Rattle.kp_model.specs.declared.message.Said.{Said}
use Rattle.kp_model.specs.Set.{record_of}
use Rattle.kp_replica.specs.Acts.{answer_reply}
use Rattle.kp_replica.specs.declared.act.Answer.TheVariants.{Appended}
use Rattle.kp_replica.specs.declared.act.Effect.{Effect}
use Rattle.kp_replica.specs.declared.act.Effect.TheVariants.{Answers, Sends}
use Rattle.kp_replica.specs.declared.producing.Receipt.{Receipt}
use Rattle.kp_world.specs.declared.event.EventAnswer.{EventAnswer}
use Rattle.kp_world.specs.declared.event.EventAnswer.TheVariants.{Changed, Sent, Answered}

abbrev pub told_reply : EventAnswer → Reply
told_reply (Changed controller) = RecordChanged (record_of controller)
told_reply (Sent number said) = said_reply said
told_reply (Answered answer) = answer_reply answer

-- the number of the message that was sent
abbrev pub number_in : EventAnswer → Option ℕ
number_in (Sent number said) = Some number
number_in _ = None

abbrev pub outcome_of : Result EventAnswer Refusal → Outcome
outcome_of (Ok answer) = record { reply = told_reply answer; number = number_in answer }
outcome_of (Err refusal) = record { reply = Refused refusal; number = None }

-- what is told of bytes that a client handed in
abbrev pub appended : Result Receipt Refusal → Result EventAnswer Refusal
appended (Ok receipt) = Ok (Answered (Appended receipt))
appended (Err refusal) = Err refusal

-- This is told of a message with this letter, where so many had been sent before.
abbrev pub TellsOf : (count : ℕ) → Letter → EventAnswer → Type 0
TellsOf count l answer = (said : Said) × (answer ≡ Sent count said) × (said_reply said ≡ sent_reply l)

-- This is told of what came of a node's act, where so many messages had been sent before.
abbrev pub IsTold : (count : ℕ) → Result Effect Refusal → Result EventAnswer Refusal → Type 0
IsTold count (Ok (Answers answer)) told = told ≡ Ok (Answered answer)
IsTold count (Ok (Sends body)) told =
    (said : Said) × (told ≡ Ok (Sent count said)) × (said_reply said ≡ sent_reply (letter body))
IsTold count (Err refusal) told = told ≡ Err refusal
