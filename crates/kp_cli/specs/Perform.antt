-- What the program does once its command line is read.
use Rattle.std.specs.Prelude.{◌⊎◌, ◌+◌, ◌++◌, ℕ, zero, suc, List, [], Option, Some, None, Result, Ok, Err, IfSome, ◌≡◌, string_bytes}
use Rattle.std.specs.Io.KnownBytes.{Keeps}
use Rattle.kp_types.specs.declared.refusal.Refusal.{Refusal}
use Rattle.kp_types.specs.declared.refusal.Refusal.TheVariants as refusals
use Rattle.kp_types.specs.declared.limits.Limits.{Limits}
use Rattle.kp_types.specs.Devices.{CountsOne, IsDeviceFault, Tells, device_of, faults_of}
use Rattle.kp_types.specs.Folders.{Entry, Puts}
use Rattle.kp_types.specs.declared.counted.Counted.{Counted}
use Rattle.kp_script.specs.Ended.{RunEnd, WritesTo}
use Rattle.kp_script.specs.Kept.{KeepsStage, KeepsStageFront}
use Rattle.kp_script.specs.Script.{IsFaultAt}
use Rattle.kp_script.specs.Transcript.{largest_batch, no_past, Writes, WritesFirst, WritesFront}
use Rattle.kp_draw.specs.Pictured.{WritesPicture, WritesPictureFront}
use Rattle.kp_draw.specs.declared.lines.Lines.{Lines}
use Rattle.kp_inspect.specs.Inspected.{Writes as WritesDump, WritesFront as WritesDumpFront}
use Rattle.kp_cli.specs.Told.{complaint, reason_of, status_of_refusal}
use Rattle.kp_cli.specs.declared.fault.Fault.{Fault}

-- What running a script leaves on standard output, where the input is known: with an answer the trace, with a
-- fault of the script nothing, a beginning of the trace where a device failed, and where a growth was refused the lines of
-- the first events, which begin it too.
abbrev pub RunsScript : Option (List ℕ) → Option (List ℕ) → Option (List ℕ) → Result ℕ Refusal → Type 0
RunsScript input old new (Ok refused) = Writes no_past input old new refused
RunsScript input old new (Err (refusals.BadScript line)) = IfSome input (λ bytes. IsFaultAt bytes line) × Keeps old new
RunsScript input old new (Err refusals.Device) = WritesFront no_past input old new
RunsScript input old new (Err refusals.Memory) = WritesFirst no_past input old new × WritesFront no_past input old new
RunsScript input old new (Err _) = ⊥

-- What a run leaves in a folder once it has ended, with how many of its events were refused: the controller's record and each node, or a
-- beginning of them where the folder failed or a growth was refused.
abbrev pub KeepsEnd : (before after : Option (List Entry)) → RunEnd → Result ℕ Refusal → Type 0
KeepsEnd before after ended (Ok refused) = (refused ≡ ended.refused) × KeepsStage ended.stage before after
KeepsEnd before after ended (Err refusal) = IsDeviceFault refusal × KeepsStageFront ended.stage before after

-- What a run leaves that is kept. Where it is refused before its end, on standard output what it leaves else, and
-- nothing in the folder; and where it ends, its trace, and in the folder its last stage.
abbrev pub RunsKeeping : (input old new : Option (List ℕ)) → (before after : Option (List Entry)) → Result ℕ Refusal → Type 0
RunsKeeping input old new before after outcome =
    ((refusal : Refusal) × (outcome ≡ Err refusal) × RunsScript input old new outcome × Puts before after [])
    ⊎ ((ended : RunEnd) × WritesTo no_past input old new ended × KeepsEnd before after ended outcome)

-- The answer is that a device failed exactly where a call of one of three did, one call of one of them: a reader, a writer and
-- a folder, each with its count before and after.
abbrev pub CountsOneOfThree : Result ℕ Refusal → (read read_new written written_new put put_new : ℕ) → Type 0
CountsOneOfThree outcome read read_new written written_new put put_new =
    (CountsOne outcome read read_new written written_new × (put_new ≡ put))
    ⊎ ((outcome ≡ Err refusals.Device) × (read_new ≡ read) × (written_new ≡ written) × (put_new ≡ put + 1))

-- how many fault lines a dump has
abbrev pub faults_in : Option Refusal → ℕ
faults_in None = 0
faults_in (Some refusal) = 1

-- What inspecting a log leaves on standard output, where the input is known: with an answer the dump, and a beginning
-- of it where a device failed or a growth was refused.
abbrev pub Inspects : Limits → Option (List ℕ) → Option (List ℕ) → Option (List ℕ) → Result ℕ Refusal → Type 0
Inspects limits input old new (Ok faults) = (fault : Option Refusal) × (faults ≡ faults_in fault) × WritesDump limits input old new fault
Inspects limits input old new (Err refusals.Device) = WritesDumpFront limits input old new
Inspects limits input old new (Err refusals.Memory) = WritesDumpFront limits input old new
Inspects limits input old new (Err _) = ⊥

-- the lines from this one to that one
abbrev pub part_of : (from to : ℕ) → Lines
part_of from to = record { from = from; to = to }

-- What drawing lines of a script leaves on standard output, where the input is known: with an answer the picture, with a fault of the
-- script nothing, nor where a growth was refused, and a beginning of the picture where a device failed.
abbrev pub Draws : Lines → Option (List ℕ) → Option (List ℕ) → Option (List ℕ) → Result ℕ Refusal → Type 0
Draws part input old new (Ok refused) = (refused ≡ 0) × WritesPicture part input old new
Draws part input old new (Err (refusals.BadScript line)) = IfSome input (λ bytes. IsFaultAt bytes line) × Keeps old new
Draws part input old new (Err refusals.Device) = WritesPictureFront part input old new
Draws part input old new (Err refusals.Memory) = Keeps old new
Draws part input old new (Err _) = ⊥

-- Nothing has happened to standard error without a refusal. With one its complaint is out, and this second line, or a call of
-- standard error failed, and a beginning of them is.
abbrev pub Complains : {E : Type 0} → (E → Option (List ℕ)) → (old new : Counted E) → Result ℕ Refusal → (second : List ℕ) → Type 0
Complains contents old new (Ok refused) second = new ≡ old
Complains contents old new (Err refusal) second = Tells contents old new (complaint refusal ++ second)

-- 0 where no event was refused and no fault was found, and 1 where one or more were
abbrev pub status_of : Result ℕ Refusal → ℕ
status_of (Ok zero) = 0
status_of (Ok (suc refused)) = 1
status_of (Err refusal) = status_of_refusal refusal

-- what is known of a file and of the two outputs: what is left to read, why the last call of the file that failed did, and what
-- stands on each output
pub record Streams (F W E : Type 0) : Type 0 where
  pub remaining : F → Option (List ℕ)
  pub file_fault : F → Fault
  pub held : W → Option (List ℕ)
  pub told : E → Option (List ℕ)

-- what is known of a folder: what stands in it, and why the last of its calls that failed did
pub record Shelf (K : Type 0) : Type 0 where
  pub entries : K → Option (List Entry)
  pub folder_fault : K → Fault

-- how a log is cut by these two numbers
abbrev pub limits_of : (segment_bytes index_interval : ℕ) → Limits
limits_of segment_bytes index_interval = record { segment_bytes = segment_bytes; index_interval = index_interval; max_batch = largest_batch }

-- What a call leaves that reads the file at this path, by what it writes: that on standard output, and on standard error the
-- refusal, if the whole call is refused, with the reason where the file failed.
abbrev pub PerformsReading : {F W E : Type 0} → Streams F W E → (path : List ℕ)
    → (Written : (input old new : Option (List ℕ)) → Result ℕ Refusal → Type 0)
    → (file file_new : Counted F) → (out out_new : Counted W) → (err err_new : Counted E) → (status : ℕ) → Type 0
PerformsReading streams path Written file file_new out out_new err err_new status =
    (outcome : Result ℕ Refusal)
    × Written (streams.remaining (device_of file)) (streams.held (device_of out)) (streams.held (device_of out_new)) outcome
    × CountsOne outcome (faults_of file) (faults_of file_new) (faults_of out) (faults_of out_new)
    × Complains streams.told err err_new outcome (reason_of streams.file_fault path (faults_of file) file_new)
    × (status ≡ status_of outcome)

-- What a run leaves whose script is the file at this path, and which is kept in the folder at that one.
abbrev pub RunsAndKeeps : {F K W E : Type 0} → Streams F W E → Shelf K → (path keep : List ℕ)
    → (file file_new : Counted F) → (folder folder_new : Counted K) → (out out_new : Counted W) → (err err_new : Counted E)
    → (status : ℕ) → Type 0
RunsAndKeeps streams shelf path keep file file_new folder folder_new out out_new err err_new status =
    (outcome : Result ℕ Refusal)
    × RunsKeeping (streams.remaining (device_of file)) (streams.held (device_of out)) (streams.held (device_of out_new))
    (shelf.entries (device_of folder)) (shelf.entries (device_of folder_new)) outcome
    × CountsOneOfThree outcome (faults_of file) (faults_of file_new) (faults_of out) (faults_of out_new)
    (faults_of folder) (faults_of folder_new)
    × Complains streams.told err err_new outcome
    (reason_of streams.file_fault path (faults_of file) file_new ++ reason_of shelf.folder_fault keep (faults_of folder) folder_new)
    × (status ≡ status_of outcome)
