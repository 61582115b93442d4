-- The text of a dump: a line for each batch, and behind them the tables that the log builds, or the first fault.
use Rattle.std.specs.Prelude.{ℕ, ◌+◌, Bool, true, false, List, [], ◌∷◌, ◌++◌, codes, Option, Some, None}
use Rattle.std.specs.List.{join_with_byte, flat_map}
use Rattle.std.specs.Fmt.{decimal}
use Rattle.kp_types.specs.declared.refusal.Refusal.{Refusal}
use Rattle.kp_types.specs.Texts.{refusal_text}
use Rattle.kp_batch.specs.Batch.{Content, Plain, Produced, Marker, max_time}
use Rattle.kp_batch.specs.Producer.{producer_of, producer_epoch_of, sequence_of}
use Rattle.kp_model.specs.Log.{Batch, size, bytes, last_offset, end_of}
use Rattle.kp_model.specs.Epochs.{epoch_cache}
use Rattle.kp_model.specs.Indexes.{run_base}
use Rattle.kp_model.specs.Tables.{Segment}
use Rattle.kp_model.specs.Producers.{Kept, Producer}
use Rattle.kp_model.specs.Transactions.{Open, Aborted, open_in, aborted_in}
use Rattle.kp_producers.specs.Table.{Table}
use Rattle.kp_segment.specs.Name.{segment_name}

-- words with a space between each two, and a line feed
abbrev pub line : List (List ℕ) → List ℕ
line words = join_with_byte 32 words ++ 10 ∷ []

-- a field that may be absent, which is -1
abbrev pub field_text : Option ℕ → List ℕ
field_text (Some number) = decimal number
field_text None = codes "-1"

abbrev pub data_text : (transactional : Bool) → List ℕ
data_text true = codes "txn"
data_text false = codes "data"

abbrev pub ending_text : (commit : Bool) → List ℕ
ending_text true = codes "commit "
ending_text false = codes "abort "

-- data, data of a transaction, or a marker with its coordinator epoch (KIP-98)
abbrev pub kind_text : Content → List ℕ
kind_text (Plain records) = codes "data"
kind_text (Produced producer epoch sequence transactional records) = data_text transactional
kind_text (Marker producer epoch coordinator commit) = ending_text commit ++ decimal coordinator

-- A batch that begins at this byte of the log: its size, its first and last offset, its leader epoch, its greatest
-- timestamp, its producer fields and its kind.
abbrev pub batch_line : ℕ → Batch → List ℕ
batch_line position b =
    line (
    codes "batch" ∷ decimal position ∷ codes "size" ∷ decimal (size b)
    ∷ codes "base" ∷ decimal b.base ∷ codes "last" ∷ decimal (last_offset b)
    ∷ codes "epoch" ∷ decimal b.epoch ∷ codes "time" ∷ decimal (max_time b.body)
    ∷ codes "producer" ∷ field_text (producer_of b.body.content) ∷ field_text (producer_epoch_of b.body.content)
    ∷ field_text (sequence_of b.body.content) ∷ kind_text b.body.content ∷ [])

-- the batches, of which the first begins at this byte
abbrev pub batch_lines : ℕ → List Batch → List ℕ
batch_lines position [] = []
batch_lines position (b ∷ bs) = batch_line position b ++ batch_lines (position + size b) bs

-- an entry of an offset index: relative offset and position
abbrev pub offset_line : ℕ × ℕ → List ℕ
offset_line entry = line (codes "offset" ∷ decimal entry.0 ∷ decimal entry.1 ∷ [])

-- an entry of a time index: timestamp and relative offset
abbrev pub time_line : ℕ × ℕ → List ℕ
time_line entry = line (codes "time" ∷ decimal entry.0 ∷ decimal entry.1 ∷ [])

-- a segment's name and size, and below it the entries of its indexes
abbrev pub segment_text : (base size : ℕ) → (offsets times : List (ℕ × ℕ)) → List ℕ
segment_text base size offsets times =
    line (codes "segment" ∷ segment_name base ∷ decimal size ∷ []) ++ flat_map offset_line offsets ++ flat_map time_line times

abbrev pub segment_lines : Segment → List ℕ
segment_lines s = segment_text (run_base s.batches) (bytes s.batches) s.offsets s.times

-- an epoch that has a batch, and its first offset
abbrev pub epoch_line : ℕ × ℕ → List ℕ
epoch_line entry = line (codes "epoch" ∷ decimal entry.0 ∷ decimal entry.1 ∷ [])

-- a kept batch of a producer: its first and last sequence, and its base offset
abbrev pub kept_text : Kept → List ℕ
kept_text kept = decimal kept.first ++ 45 ∷ decimal kept.last ++ 64 ∷ decimal kept.base

-- the coordinator epoch of a producer's last marker, a dash where it has none
abbrev pub coordinator_text : Option ℕ → List ℕ
coordinator_text (Some coordinator) = decimal coordinator
coordinator_text None = codes "-"

-- a producer: its number, its epoch, its coordinator epoch, and its kept batches, the oldest first, a space before each
abbrev pub producer_line : ℕ × Producer → List ℕ
producer_line entry =
    join_with_byte 32 (codes "producer" ∷ decimal entry.0 ∷ decimal entry.1.epoch ∷ coordinator_text entry.1.coordinator ∷ [])
    ++ flat_map (λ kept. 32 ∷ kept_text kept) entry.1.recent ++ 10 ∷ []

-- an open transaction: its producer and its first offset
abbrev pub open_line : Open → List ℕ
open_line t = line (codes "open" ∷ decimal t.producer ∷ decimal t.first ∷ [])

-- An aborted transaction: its producer, its first offset, that of its abort marker, and the last stable offset where
-- the high watermark is the offset after the marker (KIP-98).
abbrev pub aborted_line : Aborted → List ℕ
aborted_line t =
    line (codes "aborted" ∷ decimal t.producer ∷ decimal t.first ∷ decimal t.marker ∷ decimal t.stable ∷ [])

-- the log's transactions: the open ones by rising first offset, then the aborted ones by rising marker offset
abbrev pub transaction_lines : List Batch → List ℕ
transaction_lines log = flat_map open_line (open_in log) ++ flat_map aborted_line (aborted_in log)

-- the tables that the log builds, and its end
abbrev pub table_lines : List Segment → Table → List Batch → List ℕ
table_lines segments producers log =
    flat_map segment_lines segments ++ flat_map epoch_line (epoch_cache log)
    ++ flat_map producer_line producers ++ transaction_lines log
    ++ line (codes "end" ∷ decimal (end_of log) ∷ [])

-- the first fault, and the byte at which the faulty batch begins
abbrev pub fault_line : Refusal → ℕ → List ℕ
fault_line refusal position = line (codes "fault" ∷ refusal_text refusal ∷ codes "at" ∷ decimal position ∷ [])
