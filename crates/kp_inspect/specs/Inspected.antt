-- What inspecting bytes writes and answers.
use Rattle.std.specs.Prelude.{◌≡◌, ◌⊎◌, ℕ, List, [], ◌++◌, Option, Some, None, IfSome}
use Rattle.std.specs.Io.KnownBytes.{Appends, Keeps}
use Rattle.kp_types.specs.declared.refusal.Refusal.{Refusal}
use Rattle.kp_types.specs.declared.limits.Limits.{Limits}
use Rattle.kp_types.specs.Devices.{AppendsFront}
use Rattle.kp_model.specs.Log.{Batch, bytes}
use Rattle.kp_model.specs.Tables.{Segment, AreSegmentsOf}
use Rattle.kp_producers.specs.Table.{Table, AreProducersOf}
use Rattle.kp_inspect.specs.Dump.{batch_lines, table_lines, fault_line}
use Rattle.kp_inspect.specs.Scanned.{BeginsWithLog, StopsAt}

-- All the input is one log: its batches, and the tables that it builds.
pub record IsWholeDump (limits : Limits) (input text : List ℕ) : Type 0 where
  pub log : List Batch
  pub whole : BeginsWithLog limits.max_batch input log []
  pub segments : List Segment
  pub tables : AreSegmentsOf limits log segments
  pub producers : Table
  pub kept : AreProducersOf log producers
  pub text_is : text ≡ batch_lines 0 log ++ table_lines segments producers log

-- The batches before the first fault, and the fault.
pub record IsFaultyDump (limits : Limits) (input text : List ℕ) (refusal : Refusal) : Type 0 where
  pub log : List Batch
  pub stops : StopsAt limits.max_batch input log refusal
  pub text_is : text ≡ batch_lines 0 log ++ fault_line refusal (bytes log)

-- the dump of the input, with the refusal of its fault line, if it has one
abbrev pub IsDump : Limits → (input text : List ℕ) → Option Refusal → Type 0
IsDump limits input text None = IsWholeDump limits input text
IsDump limits input text (Some refusal) = IsFaultyDump limits input text refusal

-- The known bytes grew by the dump of the input, where it is known.
abbrev pub Writes : Limits → Option (List ℕ) → Option (List ℕ) → Option (List ℕ) → Option Refusal → Type 0
Writes limits input old new fault = IfSome input (λ bytes. (text : List ℕ) × IsDump limits bytes text fault × Appends old new text)

-- The known bytes grew by a beginning of the dump of the input, or stayed.
abbrev pub WritesFront : Limits → Option (List ℕ) → Option (List ℕ) → Option (List ℕ) → Type 0
WritesFront limits input old new =
    Keeps old new
    ⊎ IfSome input (λ bytes. (text : List ℕ) × (fault : Option Refusal) × IsDump limits bytes text fault × AppendsFront old new text)
