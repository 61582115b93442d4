-- What a read-committed consumer can rely on (KIP-98).
use Rattle.std.specs.Prelude.{◌≡◌, ◌⊎◌, ℕ, ◌+◌, ◌<◌, ◌≤◌, IsTrue, IsFalse, List, [], ◌++◌, Contains, Option, Some, map}
use Rattle.std.specs.List.{AllByRecursion, AllPairs, filter, find, slice_get}
use Rattle.std.specs.List.Sorted.{IsPermutation}
use Rattle.std.specs.Option.{IsSomeAnd, option_and_then}
use Rattle.kp_batch.specs.Batch.{records_of, is_transactional}
use Rattle.kp_record.specs.Record.{Record}
use Rattle.kp_model.specs.Beginning.{Begins}
use Rattle.kp_model.specs.Log.{Batch, IsLog, next_offset, below, from_offset}
use Rattle.kp_model.specs.World.{World}
use Rattle.kp_model.specs.Run.{Run, IsOf, held}
use Rattle.kp_model.specs.Producers.{content_of, producer_of}
use Rattle.kp_model.specs.Transactions.{Aborted, aborted_in, is_abort, is_marker_of, stable}
use Rattle.kp_model.specs.Visible.{is_commit, is_data, is_visible, records_in, visible}
use Rattle.kp_visible.specs.Client.{gone_over, kept, named, overlapping}

-- the next marker of the batch's producer behind it
abbrev pub ending_of : List Batch → Batch → Option Batch
ending_of log b = option_and_then (λ p. find (is_marker_of p.0) (from_offset (next_offset b) log)) (producer_of (content_of b))

-- transactional data of the log, whose transaction an abort marker of the log ends
pub record IsAbortedIn (log : List Batch) (b : Batch) : Type 0 where
  pub stands : Contains log b
  pub transactional : IsTrue (is_transactional (content_of b))
  pub aborted : IsSomeAnd (ending_of log b) (λ m. IsTrue (is_abort (content_of m)))

-- the offset is of one of the batch's records
abbrev pub Spans : Batch → ℕ → Type 0
Spans b offset = (b.base ≤ offset) × (offset < next_offset b)

-- No record of an aborted transaction is visible, at any high watermark, now or once the log has grown.
abbrev pub AbortedRecordsAreHidden : Type 0
AbortedRecordsAreHidden =
    (log more : List Batch) (b : Batch) → IsLog (log ++ more) → IsAbortedIn log b
    → (high_watermark : ℕ) → AllByRecursion (λ r. ¬ Spans b r.0) (visible (log ++ more) high_watermark)

-- Nor was one visible before the abort marker came: in no beginning of the log, at any high watermark.
abbrev pub AbortedRecordsWereHidden : Type 0
AbortedRecordsWereHidden =
    (front more : List Batch) (b : Batch) → IsLog (front ++ more) → IsAbortedIn (front ++ more) b
    → (high_watermark : ℕ) → AllByRecursion (λ r. ¬ Spans b r.0) (visible front high_watermark)

-- data of the log that isn't transactional, or whose transaction a commit marker of the log ends
pub record IsCommittedIn (log : List Batch) (b : Batch) : Type 0 where
  pub stands : Contains log b
  pub data_batch : IsTrue (is_data b)
  pub committed : IsFalse (is_transactional (content_of b)) ⊎ IsSomeAnd (ending_of log b) (λ m. IsTrue (is_commit (content_of m)))

-- Each record of such a batch below the last stable offset is visible, at the batch's base offset and its place there.
abbrev pub CommittedRecordsAreVisible : Type 0
CommittedRecordsAreVisible =
    (log : List Batch) (high_watermark : ℕ) (b : Batch) → IsCommittedIn log b → next_offset b ≤ stable log high_watermark
    → (place : ℕ) (r : Record) → slice_get (records_of b.body) place ≡ Some r → Contains (visible log high_watermark) (b.base + place, r)

-- The visible records come in offset order, each once.
abbrev pub VisibleOffsetsRise : Type 0
VisibleOffsetsRise =
    (log : List Batch) (high_watermark : ℕ) → IsLog log → AllPairs (λ one later. one.0 < later.0) (visible log high_watermark)

-- What was visible stays so. Once the log has grown and the high watermark has risen, the visible
-- records are those that were visible before, and then others behind them.
abbrev pub VisibleRecordsStay : Type 0
VisibleRecordsStay =
    (front more : List Batch) (earlier later : ℕ) → IsLog (front ++ more) → earlier ≤ later
    → Begins (visible front earlier) (visible (front ++ more) later)

-- What is visible at a high watermark is a matter of the batches below it alone.
abbrev pub OnlyBatchesBelowCount : Type 0
OnlyBatchesBelowCount =
    (log : List Batch) (high_watermark : ℕ) → IsLog log → visible log high_watermark ≡ visible (below high_watermark log) high_watermark

-- So in a run no node shows a record of an aborted transaction, at any moment: it is enough that the batch and the abort marker stand
-- in what some node holds below its high watermark, at whatever moment, before or after (KIP-98).
abbrev pub AbortedRecordsAreHiddenInRuns : Type 0
AbortedRecordsAreHiddenInRuns =
    (count : ℕ) (r : Run count) (v w : World) → IsOf v r → IsOf w r → (n m : ℕ) (b : Batch) → IsAbortedIn (held (v.nodes m)) b
    → AllByRecursion (λ line. ¬ Spans b line.0) (visible (w.nodes n).log (w.nodes n).watermark)

-- these batches are the log's, each behind the one in front of it and none between left out, and lie below the last stable offset
pub record IsStablePiece (batches log : List Batch) (high_watermark : ℕ) : Type 0 where
  pub front : List Batch
  pub rest : List Batch
  pub is : log ≡ front ++ batches ++ rest
  pub below : AllByRecursion (λ b. next_offset b ≤ stable log high_watermark) batches

-- A client that is answered with such batches, and with the names of the log's aborted transactions that overlap them, is left with those
-- that are visible in the log, in their order (KIP-98).
abbrev pub ClientsKeepWhatIsVisible : Type 0
ClientsKeepWhatIsVisible =
    (log batches : List Batch) (high_watermark : ℕ) → IsLog log → IsStablePiece batches log high_watermark
    → kept (map named (overlapping batches (aborted_in log))) batches ≡ filter (is_visible log) batches

-- And so with their records, each at its offset.
abbrev pub ClientsKeepVisibleRecords : Type 0
ClientsKeepVisibleRecords =
    (log batches : List Batch) (high_watermark : ℕ) → IsLog log → IsStablePiece batches log high_watermark
    → records_in (kept (map named (overlapping batches (aborted_in log))) batches) ≡ records_in (filter (is_visible log) batches)

-- What it is left with of two answers, the second from the end of the first on, where the log may have grown and the high watermark have
-- risen in between, is what is visible of all their batches: each record once.
abbrev pub ClientsReadOn : Type 0
ClientsReadOn =
    (log more one other : List Batch) (earlier later : ℕ) → IsLog (log ++ more) → IsStablePiece one log earlier → IsStablePiece (one ++ other) (log ++ more) later
    → kept (map named (overlapping one (aborted_in log))) one ++ kept (map named (overlapping other (aborted_in (log ++ more)))) other
    ≡ filter (is_visible (log ++ more)) (one ++ other)

-- So is a client that goes over the batches and takes entries up as it comes to them, in whatever order they are named.
abbrev pub ClientsMayGoOver : Type 0
ClientsMayGoOver =
    (log batches : List Batch) (high_watermark : ℕ) (entries : List Aborted) → IsLog log → IsStablePiece batches log high_watermark
    → IsPermutation (overlapping batches (aborted_in log)) entries → gone_over (map named entries) [] batches ≡ filter (is_visible log) batches
