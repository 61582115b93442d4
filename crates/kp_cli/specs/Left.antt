-- What the program does that goes on with the nodes that another run has left in a folder (own rule).
use Rattle.std.specs.Prelude.{◌≡◌, ◌⊎◌, ℕ, List, [], ◌++◌, codes, Option, Result, Ok, Err}
use Rattle.std.specs.Fmt.{decimal}
use Rattle.std.specs.Io.KnownBytes.{Keeps}
use Rattle.kp_types.specs.declared.counted.Counted.{Counted}
use Rattle.kp_types.specs.declared.refusal.Refusal.{Refusal}
use Rattle.kp_types.specs.declared.refusal.Refusal.TheVariants as refusals
use Rattle.kp_types.specs.Devices.{CountsOne, IsDeviceFault, Tells, device_of, faults_of}
use Rattle.kp_types.specs.Folders.{Entry, Puts}
use Rattle.kp_folder.specs.Bad.{refusal_of}
use Rattle.kp_folder.specs.Files.{Files}
use Rattle.kp_folder.specs.declared.fault.FolderFault.{FolderFault}
use Rattle.kp_folder.specs.declared.fault.FolderFault.TheVariants.{BadBatch, BadFile, BadNode, NoMemory, Unread}
use Rattle.kp_folder.specs.declared.fault.KeptFile.{KeptFile}
use Rattle.kp_folder.specs.declared.fault.KeptFile.TheVariants.{Record, Segment, State}
use Rattle.kp_script.specs.Ended.{RunEnd, WritesTo}
use Rattle.kp_script.specs.Kept.{KeepsStage, KeepsStageFront}
use Rattle.kp_script.specs.Left.{HoldsBehind, HoldsOrKeeps, IsFolderFault, IsLineFault, apart}
use Rattle.kp_script.specs.Transcript.{Writes, WritesFirst, WritesFront}
use Rattle.kp_script.specs.declared.left.CutRun.{CutRun}
use Rattle.kp_script.specs.declared.left.CutRun.TheVariants.{Folder, Run}
use Rattle.kp_cli.specs.Perform.{CountsOneOfThree, Shelf, Streams, status_of}
use Rattle.kp_cli.specs.Faults.{fault_text}
use Rattle.kp_cli.specs.Told.{complaint, file_complaint, reason_of, shown, status_of_refusal}
use Rattle.kp_cli.specs.declared.fault.Fault.{Fault}

-- what is known of a folder that is read: which answers entering the one at a path may give, which files it has, and why the last of its
-- calls that failed did
pub record Room (L : Type 0) : Type 1 where
  pub enters : L → List ℕ → Result (Unit {0}) Fault → L → Type 0
  pub files : L → Option Files
  pub left_fault : L → Fault

-- ---- what is told of a folder's fault

-- Behind the folder's path: where the file lies; and the rest.
abbrev pub file_place : KeptFile → (rest : List ℕ) → List ℕ
file_place Record rest = codes "/record" ++ rest
file_place (State node) rest = codes "/node-" ++ (decimal node ++ (codes "/state" ++ rest))
file_place (Segment node from) rest = codes "/node-" ++ (decimal node ++ (codes ", the segment at offset " ++ (decimal from ++ rest)))

-- Behind the folder's path: where the fault lies; and the rest.
abbrev pub fault_place : FolderFault → (rest : List ℕ) → List ℕ
fault_place (Unread file) rest = file_place file rest
fault_place NoMemory rest = rest
fault_place (BadFile file) rest = file_place file rest
fault_place (BadBatch node from place refusal) rest = file_place (Segment node from) (codes ", byte " ++ (decimal place ++ rest))
fault_place (BadNode node refusal) rest = codes "/node-" ++ (decimal node ++ rest)

-- what it is
abbrev pub fault_told : (why : Fault) → FolderFault → List ℕ
fault_told why (Unread file) = fault_text why
fault_told why NoMemory = []
fault_told why (BadFile file) = codes "it isn't there, or isn't what a run leaves"
fault_told why (BadBatch node from place refusal) = codes "no batch begins there"
fault_told why (BadNode node refusal) = codes "its log and its state are of no node"

-- The second line: where in the folder at this path the fault lies, and what it is, of a file that can't be read why; none where memory was
-- refused.
abbrev pub folder_line : (from : List ℕ) → Fault → FolderFault → List ℕ
folder_line from why NoMemory = []
folder_line from why fault = codes "kpart: " ++ (shown from ++ fault_place fault (codes ": " ++ (fault_told why fault ++ codes "\n")))

-- both lines
abbrev pub folder_complaint : (from : List ℕ) → Fault → FolderFault → List ℕ
folder_complaint from why fault = complaint (refusal_of fault) ++ folder_line from why fault

-- ---- runs

-- What running a script leaves on standard output, where the input and the files are known, behind whatever run has left the folder: with an
-- answer the trace, with a fault of the script or the folder nothing, a beginning of the trace where a device failed, and where a growth was
-- refused the lines of the first events, which begin it too.
abbrev pub RunsLeft : Option Files → (input old new : Option (List ℕ)) → Result ℕ CutRun → Type 0
RunsLeft files input old new (Ok refused) = HoldsBehind files (λ past. Writes past input old new refused)
RunsLeft files input old new (Err (Folder fault)) = IsFolderFault files input fault × Keeps old new
RunsLeft files input old new (Err (Run (refusals.BadScript line))) = IsLineFault files input line × Keeps old new
RunsLeft files input old new (Err (Run refusals.Device)) = HoldsOrKeeps files old new (λ past. WritesFront past input old new)
RunsLeft files input old new (Err (Run refusals.Memory)) =
    HoldsOrKeeps files old new (λ past. WritesFirst past input old new) × HoldsOrKeeps files old new (λ past. WritesFront past input old new)
RunsLeft files input old new (Err (Run _)) = ⊥

-- What it leaves in a folder once it has ended, with how many of its events were refused.
abbrev pub KeepsLeftEnd : (before after : Option (List Entry)) → RunEnd → Result ℕ CutRun → Type 0
KeepsLeftEnd before after ended (Ok refused) = (refused ≡ ended.refused) × KeepsStage ended.stage before after
KeepsLeftEnd before after ended (Err (Run refusal)) = IsDeviceFault refusal × KeepsStageFront ended.stage before after
KeepsLeftEnd before after ended (Err (Folder fault)) = ⊥

-- What such a run leaves that is kept.
abbrev pub RunsLeftKeeping : Option Files → (input old new : Option (List ℕ)) → (before after : Option (List Entry)) → Result ℕ CutRun → Type 0
RunsLeftKeeping files input old new before after outcome =
    ((cut : CutRun) × (outcome ≡ Err cut) × RunsLeft files input old new outcome × Puts before after [])
    ⊎ ((ended : RunEnd) × HoldsBehind files (λ past. WritesTo past input old new ended) × KeepsLeftEnd before after ended outcome)

-- the exit status
abbrev pub status_left : Result ℕ CutRun → ℕ
status_left (Ok refused) = status_of (Ok refused)
status_left (Err (Run refusal)) = status_of_refusal refusal
status_left (Err (Folder fault)) = status_of_refusal (refusal_of fault)

-- What stands on standard error: nothing without a refusal; else its line, and this second one of a refused run, or the folder's.
abbrev pub ComplainsLeft : {E : Type 0} → (E → Option (List ℕ)) → (from : List ℕ) → (why : Fault) → (second : List ℕ) → (old new : Counted E) → Result ℕ CutRun → Type 0
ComplainsLeft told from why second old new (Ok refused) = new ≡ old
ComplainsLeft told from why second old new (Err (Run refusal)) = Tells told old new (complaint refusal ++ second)
ComplainsLeft told from why second old new (Err (Folder fault)) = Tells told old new (folder_complaint from why fault)

-- The folder at this path can't be entered: nothing is read, and the two lines stand on standard error.
pub record EndsUnentered {F L W E : Type 0} (streams : Streams F W E) (room : Room L) (left : L) (from : List ℕ)
    (file file_new : Counted F) (out out_new : Counted W) (err err_new : Counted E) (status : ℕ) : Type 0 where
  pub fault : Fault
  pub left_new : L
  pub enters : room.enters left from (Err fault) left_new
  pub file_same : file_new ≡ file
  pub out_same : out_new ≡ out
  pub told : Tells streams.told err err_new (file_complaint from fault)
  pub status_is : status ≡ 1

-- The folder is entered, and the script at this path is run on what it has.
pub record EndsEntered {F L W E : Type 0} (streams : Streams F W E) (room : Room L) (left : L) (path from : List ℕ)
    (file file_new : Counted F) (out out_new : Counted W) (err err_new : Counted E) (status : ℕ) : Type 0 where
  pub entered : L
  pub enters : room.enters left from (Ok tt) entered
  pub read : L
  pub outcome : Result ℕ CutRun
  pub runs : RunsLeft (room.files entered) (streams.remaining (device_of file)) (streams.held (device_of out)) (streams.held (device_of out_new)) outcome
  pub counted : CountsOne (apart outcome) (faults_of file) (faults_of file_new) (faults_of out) (faults_of out_new)
  pub complains : ComplainsLeft streams.told from (room.left_fault read) (reason_of streams.file_fault path (faults_of file) file_new) err err_new outcome
  pub status_is : status ≡ status_left outcome

-- what a run leaves whose script is the file at this path, on what the folder at that one has
abbrev pub PerformsLeft : {F L W E : Type 0} → Streams F W E → Room L → (left : L) → (from path : List ℕ)
    → (file file_new : Counted F) → (out out_new : Counted W) → (err err_new : Counted E) → ℕ → Type 0
PerformsLeft streams room left from path file file_new out out_new err err_new status =
    EndsUnentered streams room left from file file_new out out_new err err_new status
    ⊎ EndsEntered streams room left path from file file_new out out_new err err_new status

-- The folder is entered, the script is run on what it has, and what it leaves is kept in the other folder.
pub record EndsEnteredKept {F L K W E : Type 0} (streams : Streams F W E) (room : Room L) (shelf : Shelf K) (left : L) (path from keep : List ℕ)
    (file file_new : Counted F) (folder folder_new : Counted K) (out out_new : Counted W) (err err_new : Counted E) (status : ℕ) : Type 0 where
  pub entered : L
  pub enters : room.enters left from (Ok tt) entered
  pub read : L
  pub outcome : Result ℕ CutRun
  pub runs : RunsLeftKeeping (room.files entered) (streams.remaining (device_of file)) (streams.held (device_of out)) (streams.held (device_of out_new))
      (shelf.entries (device_of folder)) (shelf.entries (device_of folder_new)) outcome
  pub counted : CountsOneOfThree (apart outcome) (faults_of file) (faults_of file_new) (faults_of out) (faults_of out_new) (faults_of folder) (faults_of folder_new)
  pub complains : ComplainsLeft streams.told from (room.left_fault read)
      (reason_of streams.file_fault path (faults_of file) file_new ++ reason_of shelf.folder_fault keep (faults_of folder) folder_new) err err_new outcome
  pub status_is : status ≡ status_left outcome

-- and what such a run leaves that is kept in the folder at this path; where the other can't be entered, nothing is put into this one
abbrev pub KeepsLeft : {F L K W E : Type 0} → Streams F W E → Room L → Shelf K → (left : L) → (from path keep : List ℕ)
    → (file file_new : Counted F) → (folder folder_new : Counted K) → (out out_new : Counted W) → (err err_new : Counted E) → ℕ → Type 0
KeepsLeft streams room shelf left from path keep file file_new folder folder_new out out_new err err_new status =
    ((folder_new ≡ folder) × EndsUnentered streams room left from file file_new out out_new err err_new status)
    ⊎ EndsEnteredKept streams room shelf left path from keep file file_new folder folder_new out out_new err err_new status
