-- What comes of what a handle holds (own rule).
use Rattle.std.specs.Prelude.{◌≡◌, ◌<◌, ◌++◌, ℕ, Bool, true, false, List, [], length, drop, slice_get, unwrap_or, Option, Some, None}
use Rattle.kp_batch.specs.Batch.{Written, attributes, count_of, max_time, size_of, spelling}
use Rattle.kp_batch.specs.Producer.{producer_epoch_of, producer_of, sequence_of}
use Rattle.kp_crc.specs.Crc.{crc}
use Rattle.kp_model.specs.Event.{Line}
use Rattle.kp_model.specs.Letter.{goes_to, letter}
use Rattle.kp_model.specs.Transactions.{Aborted, Open}
use Rattle.kp_model.specs.World.{Message as ModelMessage}
use Rattle.kp_model.specs.declared.message.MessageBody.{MessageBody}
use Rattle.kp_node.specs.Fetched.{FetchedView}
use Rattle.kp_segment.specs.declared.name.SegmentName.{SegmentName}
use Rattle.kp_handles.specs.Objects.{ObjectView, message, batches, fetched, is_open, records, segments, transactions}
use Rattle.kp_handles.specs.declared.misuse.Misuse.{Misuse}
use Rattle.kp_handles.specs.declared.misuse.Misuse.TheVariants.{Closed, OtherKind, OutOfRange, BadLength}
use Rattle.kp_handles.specs.declared.outs.AbortedOut.{AbortedOut}
use Rattle.kp_handles.specs.declared.outs.FetchedOut.{FetchedOut}
use Rattle.kp_handles.specs.declared.outs.HeadOut.{HeadOut}
use Rattle.kp_handles.specs.declared.outs.OpenOut.{OpenOut}
use Rattle.kp_handles.specs.declared.outs.ValueOut.{ValueOut}

-- ---- a list of something

-- the batches that it holds, the records, the open transactions, the segments, and the aborted transactions, where it holds such
abbrev pub batches_in : ObjectView → Option (List Written)
batches_in (batches ws) = Some ws
batches_in (fetched f) = Some f.batches
batches_in _ = None

abbrev pub lines_in : ObjectView → Option (List Line)
lines_in (records ls) = Some ls
lines_in _ = None

abbrev pub open_in : ObjectView → Option (List Open)
open_in (transactions ts) = Some ts
open_in _ = None

abbrev pub segments_in : ObjectView → Option (List (SegmentName × List Written))
segments_in (segments ss) = Some ss
segments_in _ = None

abbrev pub aborted_in : ObjectView → Option (List Aborted)
aborted_in (fetched f) = Some f.aborted
aborted_in _ = None

-- how many batches, records, open transactions or segments there are, where it holds such
abbrev pub count_in : ObjectView → Option ℕ
count_in (batches ws) = Some (length ws)
count_in (fetched f) = Some (length f.batches)
count_in (records ls) = Some (length ls)
count_in (transactions ts) = Some (length ts)
count_in (segments ss) = Some (length ss)
count_in _ = None

abbrev pub HasCount : Option ObjectView → ℕ → Type 0
HasCount object n = (o : ObjectView) × (object ≡ Some o) × (count_in o ≡ Some n)

-- why they weren't counted
abbrev pub BadCount : Option ObjectView → Misuse → Type 0
BadCount object Closed = object ≡ None
BadCount object OtherKind = (o : ObjectView) × (object ≡ Some o) × (count_in o ≡ None)
BadCount object _ = ⊥

-- the one of this index, of what it holds, is such
abbrev pub HasPart : {X : Type 0} → (ObjectView → Option (List X)) → ℕ → Option ObjectView → (X → Type 0) → Type 0
HasPart {X} inside index object P =
    (o : ObjectView) × (xs : List X) × (x : X) × (object ≡ Some o) × (inside o ≡ Some xs) × (slice_get xs index ≡ Some x) × P x

-- Why a call for the one of this index wasn't made; it has so many bytes, which may be too many for the places that there are.
abbrev pub BadPartOf : {X : Type 0} → (ObjectView → Option (List X)) → (X → ℕ) → (index places : ℕ) → ObjectView → Misuse → Type 0
BadPartOf inside size index places o OtherKind = inside o ≡ None
BadPartOf {X} inside size index places o OutOfRange = (xs : List X) × (inside o ≡ Some xs) × (slice_get xs index ≡ None)
BadPartOf {X} inside size index places o BadLength = (xs : List X) × (x : X) × (inside o ≡ Some xs) × (slice_get xs index ≡ Some x) × (places < size x)
BadPartOf inside size index places o _ = ⊥

abbrev pub BadPart : {X : Type 0} → (ObjectView → Option (List X)) → (X → ℕ) → (index places : ℕ) → Option ObjectView → Misuse → Type 0
BadPart inside size index places object Closed = object ≡ None
BadPart inside size index places object why = (o : ObjectView) × (object ≡ Some o) × BadPartOf inside size index places o why

-- The bytes stand where `old` stood, and what comes after them is as it was.
abbrev pub Writes : List ℕ → (old new : List ℕ) → Type 0
Writes bytes old new = new ≡ bytes ++ drop (length bytes) old

-- ---- batches

abbrev pub batch_size : Written → ℕ
batch_size w = size_of w.body

-- a batch's one spelling stands where `old` stood
abbrev pub WritesSpelling : Written → (old new : List ℕ) → Type 0
WritesSpelling w old new = new ≡ spelling crc w ++ drop (size_of w.body) old

-- why one of the batches wasn't found, or not copied to so many places
abbrev pub NoBatch : ℕ → Option ObjectView → Misuse → Type 0
NoBatch index object why = BadPart batches_in (λ w. 0) index 0 object why

abbrev pub BadBatch : (index places : ℕ) → Option ObjectView → Misuse → Type 0
BadBatch index places object why = BadPart batches_in batch_size index places object why

-- what it hasn't got has all bits set, as Kafka's -1
abbrev pub head_out : Written → HeadOut
head_out w =
    record {
      base = w.base;
      base_timestamp = w.body.base_time;
      max_timestamp = max_time w.body;
      producer_id = unwrap_or (producer_of w.body.content) 18446744073709551615;
      epoch = unwrap_or w.epoch 4294967295;
      count = count_of w.body;
      base_sequence = unwrap_or (sequence_of w.body.content) 4294967295;
      size = size_of w.body;
      producer_epoch = unwrap_or (producer_epoch_of w.body.content) 65535;
      attributes = attributes w.body.content;
    }

abbrev pub HasHead : Option ObjectView → ℕ → HeadOut → Type 0
HasHead object index found = HasPart batches_in index object (λ w. found ≡ head_out w)

abbrev pub HasSize : Option ObjectView → (index n : ℕ) → Type 0
HasSize object index n = HasPart batches_in index object (λ w. n ≡ batch_size w)

abbrev pub WritesBatch : Option ObjectView → ℕ → (old new : List ℕ) → Type 0
WritesBatch object index old new = HasPart batches_in index object (λ w. WritesSpelling w old new)

-- ---- records

abbrev pub is_null : Option (List ℕ) → Bool
is_null None = true
is_null (Some value) = false

abbrev pub value_bytes : Line → List ℕ
value_bytes l = unwrap_or l.value []

abbrev pub value_size : Line → ℕ
value_size l = length (value_bytes l)

abbrev pub value_out : Line → ValueOut
value_out l = record { offset = l.offset; size = value_size l; null = is_null l.value }

-- why one of the records wasn't found, or its value not copied to so many places
abbrev pub NoRecord : ℕ → Option ObjectView → Misuse → Type 0
NoRecord index object why = BadPart lines_in (λ l. 0) index 0 object why

abbrev pub BadValue : (index places : ℕ) → Option ObjectView → Misuse → Type 0
BadValue index places object why = BadPart lines_in value_size index places object why

abbrev pub HasRecord : Option ObjectView → ℕ → ValueOut → Type 0
HasRecord object index found = HasPart lines_in index object (λ l. found ≡ value_out l)

abbrev pub WritesValue : Option ObjectView → ℕ → (old new : List ℕ) → Type 0
WritesValue object index old new = HasPart lines_in index object (λ l. Writes (value_bytes l) old new)

-- ---- what a consumer's fetch gave

abbrev pub fetched_out : FetchedView → FetchedOut
fetched_out f = record { watermark = f.watermark; stable = f.stable; end = f.end; aborted = length f.aborted }

abbrev pub aborted_out : Aborted → AbortedOut
aborted_out a = record { producer_id = a.producer; first = a.first }

-- where the node's marks stood, and how many aborted transactions there are
abbrev pub HasFetched : Option ObjectView → FetchedOut → Type 0
HasFetched object found = (f : FetchedView) × (object ≡ Some (fetched f)) × (found ≡ fetched_out f)

-- why that wasn't told
abbrev pub BadFetched : Option ObjectView → Misuse → Type 0
BadFetched object Closed = object ≡ None
BadFetched object OtherKind = (o : ObjectView) × (object ≡ Some o) × (aborted_in o ≡ None)
BadFetched object _ = ⊥

-- one of the aborted transactions, and why it wasn't found
abbrev pub HasAborted : Option ObjectView → ℕ → AbortedOut → Type 0
HasAborted object index found = HasPart aborted_in index object (λ a. found ≡ aborted_out a)

abbrev pub NoAborted : ℕ → Option ObjectView → Misuse → Type 0
NoAborted index object why = BadPart aborted_in (λ a. 0) index 0 object why

-- ---- transactions that are open

abbrev pub open_out : Open → OpenOut
open_out t = record { producer_id = t.producer; first = t.first }

abbrev pub HasOpen : Option ObjectView → ℕ → OpenOut → Type 0
HasOpen object index found = HasPart open_in index object (λ t. found ≡ open_out t)

abbrev pub NoOpen : ℕ → Option ObjectView → Misuse → Type 0
NoOpen index object why = BadPart open_in (λ t. 0) index 0 object why

-- ---- a message

-- the node that it goes to, or 255 for the controller
abbrev pub addressee_out : MessageBody → ℕ
addressee_out body = unwrap_or (goes_to (letter body)) 255

abbrev pub HasAddressee : Option ObjectView → ℕ → Type 0
HasAddressee object n = (body : MessageBody) × (pass : ModelMessage) × (object ≡ Some (message body pass)) × (n ≡ addressee_out body)

abbrev pub BadLetter : Option ObjectView → Misuse → Type 0
BadLetter object Closed = object ≡ None
BadLetter object OtherKind = (is_open object ≡ true) × ((body : MessageBody) → (pass : ModelMessage) → object ≡ Some (message body pass) → ⊥)
BadLetter object _ = ⊥
