-- The text of a trace: a line for each event, with the number of the event's line and what was answered.
use Rattle.std.specs.Prelude.{ℕ, List, [], ◌∷◌, ◌++◌, length, map, codes, Option, Some, None}
use Rattle.std.specs.List.{join_with_byte, flat_map, zip}
use Rattle.std.specs.Fmt.{decimal}
use Rattle.kp_types.specs.Texts.{refusal_text}
use Rattle.kp_model.specs.World.{Leader, LeaderAndIsr}
use Rattle.kp_model.specs.Event.{Line, Reply, Refused, Changed, NowLeads, NowFollows, At, DuplicateOf, AsksFrom, SentBatches, SentDiverging, SentProposal, SentDecision, Learned, Took, Cut, MarkAt, CheckpointAt, Stopped, Restarted, Shown, Lines, Outcome}
use Rattle.kp_script.specs.Call.{spaced}
use Rattle.kp_words.specs.Words.{hex_text}

-- The value of a record, where null is a dash.
abbrev pub value_text : Option (List ℕ) → List ℕ
value_text (Some bytes) = hex_text bytes
value_text None = codes "-"

-- a record that was read: its offset, `=`, its value
abbrev pub line_text : Line → List ℕ
line_text line = decimal line.offset ++ 61 ∷ value_text line.value

-- how many records were read, and each of them
abbrev pub lines_text : List Line → List ℕ
lines_text lines = spaced (codes "read" ∷ decimal (length lines) ∷ map line_text lines)

-- nodes by their numbers, with a comma between each two
abbrev pub nodes_text : List ℕ → List ℕ
nodes_text nodes = join_with_byte 44 (map decimal nodes)

-- who leads, in which leader epoch
abbrev pub leader_text : Option Leader → List ℕ
leader_text (Some leader) = spaced (codes "leader" ∷ decimal leader.node ∷ codes "epoch" ∷ decimal leader.epoch ∷ [])
leader_text None = codes "leader none epoch -1"

-- an in-sync set, and a version of the controller's record
abbrev pub isr_text : (isr : List ℕ) (version : ℕ) → List ℕ
isr_text isr version = spaced (codes "isr" ∷ nodes_text isr ∷ codes "version" ∷ decimal version ∷ [])

-- the controller's record
abbrev pub record_text : LeaderAndIsr → List ℕ
record_text controller = spaced (codes "record" ∷ leader_text controller.leader ∷ isr_text controller.isr controller.version ∷ [])

-- a log's last epoch, of which an empty log has none
abbrev pub epoch_text : Option ℕ → List ℕ
epoch_text (Some epoch) = codes "epoch " ++ decimal epoch
epoch_text None = codes "no epoch"

-- where a leader epoch ends in the leader's log, where that has one
abbrev pub end_text : Option (ℕ × ℕ) → List ℕ
end_text (Some (epoch, end)) = spaced (codes "epoch" ∷ decimal epoch ∷ codes "end" ∷ decimal end ∷ [])
end_text None = codes "no epoch"

-- the number of a message
abbrev pub number_text : Option ℕ → List ℕ
number_text (Some number) = decimal number
number_text None = codes "none"

-- what was sent: the message's number, and what the message says, in these words
abbrev pub sent_text : (number : Option ℕ) → List (List ℕ) → List ℕ
sent_text number words = spaced (codes "sent" ∷ number_text number ∷ words)

-- a node's life, its log's end and its high watermark
abbrev pub life_text : (life end watermark : ℕ) → List ℕ
life_text life end watermark = spaced (codes "life" ∷ decimal life ∷ codes "end" ∷ decimal end ∷ codes "mark" ∷ decimal watermark ∷ [])

-- the reply of an event that names this node and sent the message of this number
abbrev pub reply_text : (node : ℕ) → (number : Option ℕ) → Reply → List ℕ
reply_text node number (Refused refusal) = refusal_text refusal
reply_text node number (Changed controller) = record_text controller
reply_text node number (NowLeads epoch start) = spaced (codes "leads epoch" ∷ decimal epoch ∷ codes "from" ∷ decimal start ∷ [])
reply_text node number (NowFollows leader epoch) = spaced (codes "follows" ∷ decimal leader ∷ codes "epoch" ∷ decimal epoch ∷ [])
reply_text node number (At base) = spaced (codes "at" ∷ decimal base ∷ [])
reply_text node number (DuplicateOf base) = spaced (codes "duplicate" ∷ decimal base ∷ [])
reply_text node number (AsksFrom offset last) = sent_text number (codes "asks from" ∷ decimal offset ∷ epoch_text last ∷ [])
reply_text node number (SentBatches count watermark) =
    sent_text number (codes "batches" ∷ decimal count ∷ codes "mark" ∷ decimal watermark ∷ [])
reply_text node number (SentDiverging end) = sent_text number (codes "diverges" ∷ end_text end ∷ [])
reply_text node number (SentProposal isr version) = sent_text number (codes "proposes" ∷ isr_text isr version ∷ [])
reply_text node number (SentDecision decided) = sent_text number (record_text decided ∷ [])
reply_text node number (Learned isr version) = isr_text isr version
reply_text node number (Took end watermark) = spaced (codes "end" ∷ decimal end ∷ codes "mark" ∷ decimal watermark ∷ [])
reply_text node number (Cut end) = spaced (codes "cut" ∷ decimal end ∷ [])
reply_text node number (MarkAt watermark) = spaced (codes "mark" ∷ decimal watermark ∷ [])
reply_text node number (CheckpointAt watermark) = spaced (codes "checkpoint" ∷ decimal watermark ∷ [])
reply_text node number Stopped = codes "stopped"
reply_text node number (Restarted life end watermark) = life_text life end watermark
reply_text node number (Shown life end watermark stable) =
    spaced (codes "node" ∷ decimal node ∷ codes "life" ∷ decimal life ∷ codes "end" ∷ decimal end
    ∷ codes "mark" ∷ decimal watermark ∷ codes "stable" ∷ decimal stable ∷ [])
reply_text node number (Lines lines) = lines_text lines

-- what was answered to an event that names this node
abbrev pub outcome_text : (node : ℕ) → Outcome → List ℕ
outcome_text node outcome = reply_text node outcome.number outcome.reply

-- An event's line: the number of its line in the script, a space, what was answered, and a line feed.
abbrev pub trace_line : (number node : ℕ) → Outcome → List ℕ
trace_line number node outcome = decimal number ++ 32 ∷ outcome_text node outcome ++ 10 ∷ []

-- The lines of the events, one after another: for each event the number of its line and its node, and what was answered.
abbrev pub trace_text : List (ℕ × ℕ) → List Outcome → List ℕ
trace_text events outcomes = flat_map (λ (event, outcome). trace_line event.0 event.1 outcome) (zip events outcomes)
