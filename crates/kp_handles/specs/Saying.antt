-- What a message says, and who sent it, as the caller is told (own rule).
use Rattle.std.specs.Prelude.{◌≡◌, ℕ, Bool, false, List, replicate, unwrap_or, Option, Some}
use Rattle.std.specs.Option.{option_map_or}
use Rattle.kp_model.specs.Calls.{said_reply, sent_reply}
use Rattle.kp_model.specs.Letter.{Deciding, Fetching, Letter, Proposing, letter}
use Rattle.kp_model.specs.World.{Message as ModelMessage, most_nodes}
use Rattle.kp_model.specs.declared.message.EpochEnd.{EpochEnd}
use Rattle.kp_model.specs.declared.message.MessageBody.{MessageBody}
use Rattle.kp_model.specs.declared.message.Said.{Said}
use Rattle.kp_model.specs.declared.message.Said.TheVariants.{AsksFrom, Batches, Decides, Diverging, Proposes}
use Rattle.kp_model.specs.declared.record.LeaderAndIsr.{LeaderAndIsr}
use Rattle.kp_handles.specs.Objects.{ObjectView, message}
use Rattle.kp_handles.specs.declared.saying.SaidOut.{SaidOut}

-- the node that sent it, or 255 for the controller: a request's follower, the leader that answered it, a proposal's leader
abbrev pub sender_out : Letter → ℕ
sender_out (Fetching l) = option_map_or (λ answering. l.to) l.answering l.from
sender_out (Proposing p) = p.from
sender_out (Deciding d) = 255

abbrev pub end_epoch : Option EpochEnd → ℕ
end_epoch end = option_map_or (λ e. e.epoch) end 4294967295

abbrev pub end_offset : Option EpochEnd → ℕ
end_offset end = option_map_or (λ e. e.end) end 0

abbrev pub record_epoch : LeaderAndIsr → ℕ
record_epoch r = option_map_or (λ l. l.epoch) r.leader 4294967295

-- the in-sync replicas that a proposal asks for, or that stand after a decision
abbrev pub in_sync_out : Said → List Bool
in_sync_out (Proposes isr version) = isr.members
in_sync_out (Decides r) = r.isr.members
in_sync_out _ = replicate most_nodes false

-- what a kind of message hasn't got is 0, or false; where it has none, all bits are set, as in Kafka's -1
abbrev pub blank : ℕ → List Bool → SaidOut
blank sender in_sync =
    record { offset = 0; count = 0; watermark = 0; epoch = 0; version = 0; kind = 0; sender = sender; in_sync = in_sync }

abbrev pub said_as : Said → SaidOut → SaidOut
said_as (AsksFrom offset last) out = record out { offset = offset; epoch = unwrap_or last 4294967295 }
said_as (Batches count watermark) out = record out { kind = 1; count = count; watermark = watermark }
said_as (Diverging end) out = record out { kind = 2; offset = end_offset end; epoch = end_epoch end }
said_as (Proposes isr version) out = record out { kind = 3; version = version }
said_as (Decides r) out = record out { kind = 4; epoch = record_epoch r; version = r.version }

abbrev pub said_out : (sender : ℕ) → Said → SaidOut
said_out sender said = said_as said (blank sender (in_sync_out said))

-- the message says this
abbrev pub HasSaid : Option ObjectView → SaidOut → Type 0
HasSaid object found =
    (body : MessageBody) × (pass : ModelMessage) × (said : Said) × (object ≡ Some (message body pass))
    × (said_reply said ≡ sent_reply (letter body)) × (found ≡ said_out (sender_out (letter body)) said)
