-- Laws of dumps.
use Rattle.std.specs.Prelude.{◌≡◌, ℕ, List, ◌++◌, Option, None}
use Rattle.std.specs.List.{AllByRecursion}
use Rattle.kp_types.specs.Folders.{Entry}
use Rattle.kp_types.specs.declared.refusal.Refusal.{Refusal}
use Rattle.kp_types.specs.declared.limits.Limits.{Limits}
use Rattle.kp_record.specs.Record.{AreBytes}
use Rattle.kp_model.specs.Log.{Batch, IsLog}
use Rattle.kp_model.specs.Tables.{Segment, AreSegmentsOf}
use Rattle.kp_producers.specs.Table.{Table, AreProducersOf}
use Rattle.kp_log.specs.Files.{AreFilesOf, joined}
use Rattle.kp_inspect.specs.Dump.{batch_lines, table_lines}
use Rattle.kp_inspect.specs.Inspected.{IsDump}
use Rattle.kp_inspect.specs.Scanned.{IsTaken}

-- Bytes have one dump at most, and one fault at most.
abbrev pub DumpsAreOne : Type 0
DumpsAreOne =
    (limits : Limits) (bytes text other : List ℕ) (fault another : Option Refusal) → AreBytes bytes
    → IsDump limits bytes text fault → IsDump limits bytes other another → (text ≡ other) × (fault ≡ another)

-- the dump of a log: a line for each of its batches, and then what it builds
pub record IsDumpOf (limits : Limits) (log : List Batch) (text : List ℕ) : Type 0 where
  pub segments : List Segment
  pub tables : AreSegmentsOf limits log segments
  pub producers : Table
  pub kept : AreProducersOf log producers
  pub text_is : text ≡ batch_lines 0 log ++ table_lines segments producers log

-- The files that a log is kept in, joined in their order, have the log's dump and no fault, by whatever limits either is
-- cut. Its batches have at most as many bytes as the dump takes.
abbrev pub KeptLogsAreRead : Type 0
KeptLogsAreRead =
    (folder : List ℕ) (kept limits : Limits) (log : List Batch) (files : List Entry) (text : List ℕ) (fault : Option Refusal)
    → IsLog log → AllByRecursion (IsTaken limits.max_batch) log → AreFilesOf folder kept log files → AreBytes (joined files)
    → IsDump limits (joined files) text fault → (fault ≡ None) × IsDumpOf limits log text
