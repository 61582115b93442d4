-- The replies of the definitions that the calls' results are.
use Rattle.std.specs.Prelude.{◌≡◌, ℕ, ◌-◌, true, false, Bool, List, Option, Some, None, Result, Ok, Err, if◌then◌else◌, Contains}
use Rattle.kp_types.specs.declared.refusal.Refusal.{Refusal}
use Rattle.kp_batch.specs.Batch.{Body, Written, Content, Plain, Produced, Marker, count_of}
use Rattle.kp_batch.specs.Laws.{IsBatch}
use Rattle.kp_batch.specs.Reading.{IsFirstFault}
use Rattle.kp_model.specs.Log.{Batch, last_offset}
use Rattle.kp_marker.specs.Marker.{commits}
use Rattle.kp_marker.specs.declared.parts.Marker.{Marker as HandedMarker}
use Rattle.kp_model.specs.Event.{Act, Mark, Reply, Refused, NowLeads, NowFollows, At, DuplicateOf, Learned, Took, Cut, MarkAt, CheckpointAt, Shown as StateShown, Lines, Line}
use Rattle.kp_model.specs.Appending.{marker_body}
use Rattle.kp_model.specs.Producers.{sequence_after}
use Rattle.kp_model.specs.Set.{members_of}
use Rattle.kp_replica.specs.declared.adopting.Role.{Role}
use Rattle.kp_replica.specs.declared.adopting.Role.TheVariants as roles
use Rattle.kp_replica.specs.declared.producing.Receipt.{Receipt}
use Rattle.kp_replica.specs.declared.reading.Shown.{Shown}
use Rattle.kp_replica.specs.declared.taking.Taken.{Taken}
use Rattle.kp_replica.specs.declared.cutting.CutBack.{CutBack}
use Rattle.kp_replica.specs.declared.altering.Learned.{Learned as LearnedIsr}

abbrev pub role_reply : Result Role Refusal → Reply
role_reply (Ok (roles.Leads epoch start)) = NowLeads epoch start
role_reply (Ok (roles.Follows leader epoch)) = NowFollows leader epoch
role_reply (Err refusal) = Refused refusal

abbrev pub receipt_reply : Result Receipt Refusal → Reply
receipt_reply (Ok receipt) = if receipt.duplicate then DuplicateOf receipt.base else At receipt.base
receipt_reply (Err refusal) = Refused refusal

abbrev pub watermark_reply : Result ℕ Refusal → Reply
watermark_reply (Ok watermark) = MarkAt watermark
watermark_reply (Err refusal) = Refused refusal

abbrev pub taken_reply : Result Taken Refusal → Reply
taken_reply (Ok taken) = Took taken.end taken.watermark
taken_reply (Err refusal) = Refused refusal

abbrev pub cut_reply : Result CutBack Refusal → Reply
cut_reply (Ok cut) = Cut cut.end
cut_reply (Err refusal) = Refused refusal

abbrev pub learned_reply : Result LearnedIsr Refusal → Reply
learned_reply (Ok learned) = Learned (members_of learned.isr) learned.version
learned_reply (Err refusal) = Refused refusal

abbrev pub checkpoint_reply : Result ℕ Refusal → Reply
checkpoint_reply (Ok watermark) = CheckpointAt watermark
checkpoint_reply (Err refusal) = Refused refusal

abbrev pub shown_reply : Shown → Reply
shown_reply shown = StateShown shown.life shown.end shown.watermark shown.stable

abbrev pub state_reply : Result Shown Refusal → Reply
state_reply (Ok shown) = shown_reply shown
state_reply (Err refusal) = Refused refusal

-- the reply to a read
abbrev pub lines_reply : Result (List Line) Refusal → Reply
lines_reply (Ok lines) = Lines lines
lines_reply (Err refusal) = Refused refusal

-- What the bytes hand in: the batch that they are, or their first fault.
abbrev pub IsOffer : ℕ → List ℕ → Result Body Refusal → Type 0
IsOffer max bytes (Ok body) = (w : Written) × IsBatch max bytes w × (w.body ≡ body)
IsOffer max bytes (Err fault) = IsFirstFault max bytes fault

-- What a transaction coordinator asks for that hands in this marker, and the body that stands in the log then (KIP-98).
abbrev pub mark_of : HandedMarker → Act
mark_of m = Mark m.timestamp m.producer_id m.producer_epoch m.coordinator_epoch (commits m.kind)

abbrev pub body_of : HandedMarker → Body
body_of m = marker_body m.timestamp m.producer_id m.producer_epoch m.coordinator_epoch (commits m.kind)

-- the receipt names this batch
pub record IsNamedBy (receipt : Receipt) (b : Batch) : Type 0 where
  pub base : receipt.base ≡ b.base
  pub last : receipt.last ≡ last_offset b
  pub epoch : receipt.epoch ≡ b.epoch

-- what a data batch says of its producer: who, in which epoch, with which first and last sequence number (KIP-98)
pub record Claim : Type 0 where
  pub producer : ℕ
  pub epoch : ℕ
  pub first : ℕ
  pub last : ℕ

abbrev pub claim_in : Body → Content → Option Claim
claim_in body (Plain records) = None
claim_in body (Produced producer epoch sequence transactional records) =
    Some (record { producer = producer; epoch = epoch; first = sequence; last = sequence_after sequence (count_of body - 1) })
claim_in body (Marker producer epoch coordinator commit) = None

abbrev pub claim_of : Body → Option Claim
claim_of body = claim_in body body.content

-- What stands is what was handed in; for a duplicate, a batch of the same producer, producer epoch, first and last
-- sequence number.
abbrev pub StandsFor : (duplicate : Bool) → Batch → Body → Type 0
StandsFor false b body = b.body ≡ body
StandsFor true b body = (claim : Claim) × (claim_of b.body ≡ Some claim) × (claim_of body ≡ Some claim)

-- The bytes handed in a batch, and the one that the receipt names stands in the log for it.
pub record IsReceiptOf (max : ℕ) (bytes : List ℕ) (log : List Batch) (receipt : Receipt) : Type 0 where
  pub body : Body
  pub handed : IsOffer max bytes (Ok body)
  pub batch : Batch
  pub stands : Contains log batch
  pub named : IsNamedBy receipt batch
  pub stands_for : StandsFor receipt.duplicate batch body

-- The batch that the receipt names stands in the log, and has this body.
pub record IsReceiptOfBody (body : Body) (log : List Batch) (receipt : Receipt) : Type 0 where
  pub batch : Batch
  pub stands : Contains log batch
  pub named : IsNamedBy receipt batch
  pub is : batch.body ≡ body
