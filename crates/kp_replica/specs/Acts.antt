-- What a node does and what comes of it, as the definitions' acts, effects and replies.
use Rattle.std.specs.Prelude.{◌≡◌, ℕ, IsFalse, List, [], ◌∷◌, map, Some, Result, Ok, Err, Contains}
use Rattle.kp_types.specs.declared.refusal.Refusal.{Refusal}
use Rattle.kp_record.specs.Record.{AreBytes}
use Rattle.kp_batch.specs.Batch.{Body, IsBody}
use Rattle.kp_model.specs.Event as model
use Rattle.kp_model.specs.Event.{Act as ModelAct, Line, Receive, Reply, Refused}
use Rattle.kp_model.specs.Log.{Batch, IsLog, IsKin}
use Rattle.kp_model.specs.Admission.{admit, Duplicate}
use Rattle.kp_model.specs.World.{LeaderAndIsr, Node, Asks, Answers as AnswersOf}
use Rattle.kp_model.specs.Letter.{Letter, letter, letter_of}
use Rattle.kp_model.specs.Calls.{sent_reply}
use Rattle.kp_model.specs.Effect.{Effect as ModelEffect}
use Rattle.kp_model.specs.Fetching.{is_covered}
use Rattle.kp_model.specs.Local.{Local, cause}
use Rattle.kp_model.specs.declared.message.MessageBody.{MessageBody}
use Rattle.kp_replica.specs.Adopting.{IsWithin}
use Rattle.kp_replica.specs.Altering.{change_act}
use Rattle.kp_replica.specs.Hearing.{CutsAbove}
use Rattle.kp_replica.specs.NumberedNode.{NumberedNode, IsSameNode}
use Rattle.kp_replica.specs.Replies.{role_reply, receipt_reply, taken_reply, cut_reply, learned_reply, shown_reply, mark_of, body_of, IsOffer, IsNamedBy, IsReceiptOf, IsReceiptOfBody}
use Rattle.kp_replica.specs.declared.act.Act.{Act}
use Rattle.kp_replica.specs.declared.act.Act.TheVariants.{Produce, Plain}
use Rattle.kp_replica.specs.declared.act.PlainAct.{PlainAct}
use Rattle.kp_replica.specs.declared.act.PlainAct.TheVariants.{Adopt, Mark, Ask, Raise, Alter, Checkpoint, Stop, Restart, Show, Read, Committed}
use Rattle.kp_replica.specs.declared.act.Answer.{Answer}
use Rattle.kp_replica.specs.declared.act.Answer.TheVariants as answers
use Rattle.kp_replica.specs.declared.act.Effect.{Effect}
use Rattle.kp_replica.specs.declared.act.Effect.TheVariants.{Answers, Sends}
use Rattle.kp_replica.specs.declared.adopting.Role.{Role}
use Rattle.kp_replica.specs.declared.producing.Receipt.{Receipt}
use Rattle.kp_replica.specs.declared.reading.Shown.{Shown}

-- ---- acts

-- an act that is handed no bytes
abbrev pub plain_act : PlainAct → ModelAct
plain_act Adopt = model.Adopt
plain_act (Mark handed) = mark_of handed.marker
plain_act Ask = model.Ask
plain_act Raise = model.Raise
plain_act (Alter change) = change_act change
plain_act Checkpoint = model.Checkpoint
plain_act Stop = model.Stop
plain_act Restart = model.Restart
plain_act Show = model.Show
plain_act (Read from) = model.Read from
plain_act (Committed from) = model.Committed from

-- What a node does is this of the definitions, where batches have at most so many bytes. Bytes that are handed in are a
-- batch, or what refuses them.
abbrev pub IsAct : ℕ → Act → ModelAct → Type 0
IsAct max (Produce bytes) a = (offer : Result Body Refusal) × IsOffer max bytes offer × (a ≡ model.Produce offer)
IsAct max (Plain act) a = a ≡ plain_act act

-- an act that a node is asked for: all but that a message comes
abbrev pub IsAsked : ModelAct → Type 0
IsAsked (Receive m) = ⊥
IsAsked _ = Unit {0}

-- what is handed in are bytes
abbrev pub HandsBytes : Act → Type 0
HandsBytes (Produce bytes) = AreBytes bytes
HandsBytes _ = Unit {0}

-- What takes no memory, so that it is never refused for want of it: an ask, a change of the in-sync replicas that is asked for,
-- a batch that comes twice, a request that no batches answer, an answer that has none as the logs have parted, and what the
-- controller is asked or decides (own rule).
abbrev pub TakesNoMemory : Node → ModelAct → Type 0
TakesNoMemory x model.Ask = Unit {0}
TakesNoMemory x (model.Join m) = Unit {0}
TakesNoMemory x (model.Leave m) = Unit {0}
TakesNoMemory x (model.Produce (Ok body)) = IsBody body × (base : ℕ) × (admit x.log body.content ≡ Duplicate base)
TakesNoMemory x (Receive (Asks request)) = IsFalse (is_covered x.log request)
TakesNoMemory x (Receive (AnswersOf a)) = IsFalse (is_covered a.log a.request)
TakesNoMemory x (Receive _) = Unit {0}
TakesNoMemory x _ = ⊥

-- ---- what comes of them

abbrev pub answer_reply : Answer → Reply
answer_reply (answers.Adopted role) = role_reply (Ok role)
answer_reply (answers.Appended receipt) = receipt_reply (Ok receipt)
answer_reply (answers.Took taken) = taken_reply (Ok taken)
answer_reply (answers.Cut cut) = cut_reply (Ok cut)
answer_reply (answers.Learned learned) = learned_reply (Ok learned)
answer_reply (answers.Watermark watermark) = model.MarkAt watermark
answer_reply (answers.Checkpoint watermark) = model.CheckpointAt watermark
answer_reply answers.Stopped = model.Stopped
answer_reply (answers.Restarted life end watermark) = model.Restarted life end watermark
answer_reply (answers.Shown shown) = shown_reply shown
answer_reply (answers.Lines lines) = model.Lines lines

abbrev pub answered_reply : Result Answer Refusal → Reply
answered_reply (Ok answer) = answer_reply answer
answered_reply (Err refusal) = Refused refusal

-- what is replied, and the letters of the messages that are sent
abbrev pub reply_of : Result Effect Refusal → Reply
reply_of (Ok (Answers answer)) = answer_reply answer
reply_of (Ok (Sends body)) = sent_reply (letter body)
reply_of (Err refusal) = Refused refusal

abbrev pub letters_in : Result Effect Refusal → List Letter
letters_in (Ok (Sends body)) = letter body ∷ []
letters_in (Ok (Answers answer)) = []
letters_in (Err refusal) = []

-- Under this record the node did so, and is now the new one: what came of it, or why it was refused, is an effect of the
-- definitions.
pub record Comes (c : LeaderAndIsr) (old new : NumberedNode) (act : ModelAct) (outcome : Result Effect Refusal) : Type 0 where
  pub effect : ModelEffect
  pub local : Local c old.number old.state act effect
  pub node_is : effect.node ≡ new.state
  pub letters_are : map letter_of effect.sent ≡ letters_in outcome
  pub reply_is : effect.reply ≡ reply_of outcome
  pub same : IsSameNode old new

-- the acts that look at the controller's record
abbrev pub Looks : ModelAct → Type 0
Looks model.Adopt = Unit {0}
Looks (Receive (AnswersOf a)) = IsFalse (is_covered a.log a.request)
Looks _ = ⊥

-- What each run has of a node that does so under this record: its log has no epoch above the record's; it is kin to the log
-- of a request, also of an answered one, which is kin to the answer's, and the node wouldn't cut it below its watermark.
abbrev pub IsOfRun : LeaderAndIsr → NumberedNode → ModelAct → Type 0
IsOfRun c x model.Adopt = IsWithin c x.state.log
IsOfRun c x (Receive (Asks r)) = IsLog r.log × IsKin r.log x.state.log
IsOfRun c x (Receive (AnswersOf a)) =
    IsLog a.log × IsLog a.request.log × IsKin a.request.log x.state.log × IsKin a.request.log a.log × CutsAbove c x (AnswersOf a)
IsOfRun c x _ = Unit {0}

-- So the node did where it was shown this record: whatever the record was, where the act doesn't look at it.
abbrev pub Acts : (shown : LeaderAndIsr) → NumberedNode → NumberedNode → ModelAct → Result Effect Refusal → Type 0
Acts shown old new act outcome =
    (c : LeaderAndIsr) → (Looks act → c ≡ shown) → IsOfRun c old act → Comes c old new act outcome

-- The same of what a cause refuses, also where the logs aren't those of a run.
abbrev pub Refuses : (shown : LeaderAndIsr) → NumberedNode → NumberedNode → ModelAct → Result Effect Refusal → Type 0
Refuses shown old new act outcome =
    (c : LeaderAndIsr) → (Looks act → c ≡ shown) → (refusal : Refusal) → cause c old.number old.state act ≡ Some refusal
    → Comes c old new act outcome

-- a receipt that is answered names a batch that stands in this log: base and last offset, and leader epoch
abbrev pub NamesIn : List Batch → Result Effect Refusal → Type 0
NamesIn log (Ok (Answers (answers.Appended receipt))) = (b : Batch) × Contains log b × IsNamedBy receipt b
NamesIn log _ = Unit {0}

abbrev pub IsRestarted : Answer → Type 0
IsRestarted answer = (life : ℕ) × (end : ℕ) × (watermark : ℕ) × (answer ≡ answers.Restarted life end watermark)

-- What comes of bytes that aren't refused: a receipt, which names the batch that stands in the node's log for them.
abbrev pub IsAppended : NumberedNode → NumberedNode → List ℕ → Effect → Type 0
IsAppended old new bytes e =
    (receipt : Receipt) × (e ≡ Answers (answers.Appended receipt)) × IsReceiptOf old.limits.max_batch bytes new.state.log receipt

-- What comes of another act that isn't refused.
abbrev pub FitsPlain : PlainAct → NumberedNode → Effect → Type 0
FitsPlain Adopt new e = (role : Role) × (e ≡ Answers (answers.Adopted role))
FitsPlain (Mark handed) new e =
    (receipt : Receipt) × (e ≡ Answers (answers.Appended receipt)) × IsReceiptOfBody (body_of handed.marker) new.state.log receipt
FitsPlain Ask new e = (body : MessageBody) × (e ≡ Sends body)
FitsPlain Raise new e = (watermark : ℕ) × (e ≡ Answers (answers.Watermark watermark))
FitsPlain (Alter change) new e = (body : MessageBody) × (e ≡ Sends body)
FitsPlain Checkpoint new e = (watermark : ℕ) × (e ≡ Answers (answers.Checkpoint watermark))
FitsPlain Stop new e = e ≡ Answers answers.Stopped
FitsPlain Restart new e = (answer : Answer) × (e ≡ Answers answer) × IsRestarted answer
FitsPlain Show new e = (shown : Shown) × (e ≡ Answers (answers.Shown shown))
FitsPlain (Read from) new e = (lines : List Line) × (e ≡ Answers (answers.Lines lines))
FitsPlain (Committed from) new e = (lines : List Line) × (e ≡ Answers (answers.Lines lines))

abbrev pub Fits : Act → NumberedNode → NumberedNode → Effect → Type 0
Fits (Produce bytes) old new e = IsAppended old new bytes e
Fits (Plain act) old new e = FitsPlain act new e
