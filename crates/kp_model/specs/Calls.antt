-- What a call of a node does, said without the world: its event, by what the call itself knows (own).
use Rattle.std.specs.Prelude.{◌≡◌, ℕ, min, max, List, ◌++◌, length, Option, Some, None, if◌then◌else◌}
use Rattle.kp_types.specs.declared.refusal.Refusal.{Refusal}
use Rattle.kp_types.specs.declared.refusal.Refusal.TheVariants as refusals
use Rattle.kp_model.specs.Log.{Batch, end_of, below, IsLog, IsKin}
use Rattle.kp_model.specs.Epochs.{covers, cut_place}
use Rattle.kp_model.specs.World.{Leader, LeaderAndIsr, Leading, Down, Leads, Node, Request, Answer, Message, Asks, Answers}
use Rattle.kp_model.specs.Event.{Act, Adopt, Reply, Refused, AsksFrom, SentBatches, SentDiverging, SentProposal, SentDecision, Took, Cut}
use Rattle.kp_model.specs.Effect.{Effect, becomes, sends}
use Rattle.kp_model.specs.Adopting.{under}
use Rattle.kp_model.specs.Fetching.{reporting, piece_from, end_asked, take_cause_for, cut_cause_for}
use Rattle.kp_model.specs.Local.{Local, cause}
use Rattle.std.specs.Option.{option_map}
use Rattle.kp_model.specs.declared.message.Said.{Said}
use Rattle.kp_model.specs.declared.message.Said.TheVariants as says
use Rattle.kp_model.specs.Set.{members_of, record_of}
use Rattle.kp_model.specs.Letter.{Letter, Answering, Batches, Diverging, FetchLetter, Fetching, Proposing, Deciding, letter_of, asked_letter, answered_letter}

-- Under this record of the controller node n, which was x, did this, replied so, and is y now.
abbrev pub DoesUnder : LeaderAndIsr → ℕ → Node → Node → Act → Reply → Type 0
DoesUnder c n x y act reply = Local c n x act (becomes y reply)

-- what is replied by who sends a message with this letter
abbrev pub reply_by : (offset : ℕ) → (last : Option ℕ) → Option Answering → Reply
reply_by offset last None = AsksFrom offset last
reply_by offset last (Some (Batches batches watermark)) = SentBatches (length batches) watermark
reply_by offset last (Some (Diverging end)) = SentDiverging end

abbrev pub sent_reply : Letter → Reply
sent_reply (Fetching l) = reply_by l.offset l.last l.answering
sent_reply (Proposing p) = SentProposal p.isr p.known.version
sent_reply (Deciding d) = SentDecision d.decided

-- what the code tells of such a message
abbrev pub said_reply : Said → Reply
said_reply (says.AsksFrom offset last) = AsksFrom offset last
said_reply (says.Batches count watermark) = SentBatches count watermark
said_reply (says.Diverging end) = SentDiverging (option_map (λ e. (e.epoch, e.end)) end)
said_reply (says.Proposes isr version) = SentProposal (members_of isr) version
said_reply (says.Decides decided) = SentDecision (record_of decided)

-- It did so and sent a message with this letter, whatever the record was.
pub record DoesSending (n : ℕ) (x y : Node) (act : Act) (letter : Letter) : Type 0 where
  pub message : Message
  pub letter_is : letter_of message ≡ letter
  pub local : (c : LeaderAndIsr) → Local c n x act (sends y message (sent_reply letter))

-- A call that is handed a message knows its letter alone: what it does is said for each message with that letter.
abbrev pub ForLetter : Letter → (Message → Type 0) → Type 0
ForLetter letter P = (m : Message) → letter_of m ≡ letter → P m

-- Where it rests on whole logs, it is said for each request, or answer, with that letter whose logs are kin, as all are in a run.
abbrev pub ForRequest : FetchLetter → List Batch → (Message → Type 0) → Type 0
ForRequest letter log P = (r : Request) → asked_letter r ≡ letter → IsLog r.log → IsKin r.log log → P (Asks r)

abbrev pub ForAnswer : FetchLetter → List Batch → (Message → Type 0) → Type 0
ForAnswer letter log P =
    (a : Answer) → answered_letter a ≡ letter → IsLog a.log → IsLog a.request.log
    → IsKin a.request.log log → IsKin a.request.log a.log → P (Answers a)

-- ---- calls with one result, which is named before the record is known

abbrev pub adopted_by : Option Refusal → Option Leader → LeaderAndIsr → ℕ → Node → Effect
adopted_by (Some refusal) leader c n x = becomes x (Refused refusal)
adopted_by None None c n x = becomes x (Refused refusals.StaleRecord)
adopted_by None (Some l) c n x = let role = under c l n x.log in becomes (record x { kept = Some l.epoch; mode = role.0 }) role.1

-- what adopting the record comes to
abbrev pub adopted : LeaderAndIsr → ℕ → Node → Effect
adopted c n x = adopted_by (cause c n x Adopt) c.leader c n x

-- ---- what is done with a request or an answer, by its letter alone

-- The leader that a request with this letter leaves, and the letter of its answer: it sends batches, and the sender's
-- reported end is lifted, where its log covers what the letter shows; else it tells the last epoch's end, and stays.
abbrev pub served : Node → Leading → FetchLetter → Node
served x l q = if covers x.log q.offset q.last then record x { mode = Leads (reporting l q.from q.offset) } else x

abbrev pub answering_at : Node → FetchLetter → Answering
answering_at x q =
    if covers x.log q.offset q.last then Batches (piece_from q.offset x.log) x.watermark else Diverging (end_asked x.log q.last)

abbrev pub answer_letter : Node → FetchLetter → FetchLetter
answer_letter x q = record q { answering = Some (answering_at x q) }

-- what is answered of the asked epoch
abbrev pub answered_end : Option Answering → Option (ℕ × ℕ)
answered_end (Some (Diverging end)) = end
answered_end _ = None

abbrev pub cut_by : Option Refusal → Node → ℕ → Effect
cut_by (Some refusal) x place = becomes x (Refused refusal)
cut_by None x place = becomes (record x { log = below place x.log }) (Cut place)

-- what a diverging answer with this letter comes to
abbrev pub cut : LeaderAndIsr → ℕ → Node → FetchLetter → Effect
cut c n x l =
    cut_by (cut_cause_for c n x l.from l.life l.epoch l.offset l.last) x (cut_place x.log (answered_end l.answering))

abbrev pub taken_by : Option Refusal → Node → List Batch → (watermark : ℕ) → Effect
taken_by (Some refusal) x batches watermark = becomes x (Refused refusal)
taken_by None x batches watermark =
    let mark = max x.watermark (min watermark (end_of (x.log ++ batches))) in
    becomes (record x { log = x.log ++ batches; watermark = mark }) (Took (end_of (x.log ++ batches)) mark)

-- what it comes to that these batches, asked for in this epoch, from this offset on and by this last epoch, came with this
-- watermark
abbrev pub taken : Node → (epoch offset : ℕ) → (last : Option ℕ) → List Batch → (watermark : ℕ) → Effect
taken x epoch offset last batches watermark =
    taken_by (take_cause_for x epoch offset last batches watermark) x batches watermark

-- and where there was no room for more than some of them
abbrev pub taken_some : Node → List Batch → Effect
taken_some x some = becomes (record x { log = x.log ++ some; mode = Down }) (Refused refusals.Memory)
