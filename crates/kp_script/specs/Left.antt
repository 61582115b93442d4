-- What a script does that is run on what a folder has (own rule).
use Rattle.std.specs.Prelude.{◌≡◌, ◌⊎◌, ℕ, Bool, false, nat_lt, List, [], ◌∷◌, ◌++◌, length, Option, Some, None, Result, Ok, Err, IfSome, if◌then◌else◌}
use Rattle.std.specs.List.{AllByRecursion}
use Rattle.std.specs.Io.KnownBytes.{Keeps}
use Rattle.kp_types.specs.declared.limits.Limits.{Limits}
use Rattle.kp_types.specs.declared.refusal.Refusal.{Refusal}
use Rattle.kp_types.specs.declared.refusal.Refusal.TheVariants as refusals
use Rattle.kp_model.specs.Left.{LeftBehind}
use Rattle.kp_model.specs.World.{LeaderAndIsr}
use Rattle.kp_folder.specs.Bad.{IsStop, NoneLeft}
use Rattle.kp_folder.specs.Files.{Files}
use Rattle.kp_folder.specs.Left.{HasLeft, HasRecord, HaveLives}
use Rattle.kp_folder.specs.declared.fault.FolderFault.{FolderFault}
use Rattle.kp_folder.specs.declared.fault.FolderFault.TheVariants.{BadFile}
use Rattle.kp_folder.specs.declared.fault.KeptFile.TheVariants.{Record}
use Rattle.kp_world.specs.Left.{BeginsAgain, IsLeftAt, IsPause}
use Rattle.kp_world.specs.Plays.{IsReached}
use Rattle.kp_world.specs.Shown.{Stage}
use Rattle.kp_script.specs.Call.{Call, Deliver, Header}
use Rattle.kp_script.specs.Ended.{limits_in}
use Rattle.kp_script.specs.Script.{IsFaultAt, IsScript, Script}
use Rattle.kp_script.specs.Transcript.{IsRunRefusal, Past, answers_before, events_before, largest_batch}
use Rattle.kp_script.specs.declared.left.CutRun.{CutRun}
use Rattle.kp_script.specs.declared.left.CutRun.TheVariants.{Folder, Run}

-- whether it is a delivery of a message before this number
abbrev pub is_before : (first : ℕ) → Call → Bool
is_before first (Deliver number) = nat_lt number first
is_before first _ = false

-- the line of the first delivery of such a message: it went with the process that sent it
abbrev pub lost_line : (first : ℕ) → List (ℕ × Call) → Option ℕ
lost_line first [] = None
lost_line first (call ∷ calls) = if is_before first call.1 then Some call.0 else lost_line first calls

-- The past came to a stage of which this is kept, and so many messages were sent in it.
pub record CameTo (count : ℕ) (past : Past) (x : LeftBehind) (sent : ℕ) : Type 0 where
  pub limits : Limits
  pub stage : Stage
  pub reached : IsReached count limits (events_before past) (answers_before past) stage
  pub kept : IsLeftAt x sent stage

-- restarts and stops of nodes alone
abbrev pub ArePauses : Past → Type 0
ArePauses past = AllByRecursion (λ happened. IsPause happened.0) past

-- Whatever past came to this, it goes on by restarts and stops of nodes, and behind these this holds.
abbrev pub Behind : LeftBehind → (sent : ℕ) → (Past → Type 0) → Type 0
Behind x sent Holds = (past : Past) → CameTo (length x.nodes) past x sent → (pauses : Past) × ArePauses pauses × Holds (past ++ pauses)

-- The folder has what a process has left, where its files are known, and behind that this holds.
abbrev pub HoldsBehind : Option Files → (Past → Type 0) → Type 0
HoldsBehind known Holds = IfSome known (λ files. (x : LeftBehind) × (sent : ℕ) × HasLeft files largest_batch x (Some sent) × Behind x sent Holds)

-- The folder has what a process has left of so many nodes, and the stage is that with which a new one begins.
pub record IsBegun (files : Files) (header : Header) (first : ℕ) (stage : Stage) : Type 0 where
  pub left : LeftBehind
  pub has : HasLeft files largest_batch left (Some first)
  pub lives : HaveLives left.nodes
  pub count : length left.nodes ≡ header.count
  pub begins : BeginsAgain (limits_in header) left first stage

-- The known bytes stayed, or this holds behind what the folder has.
abbrev pub HoldsOrKeeps : Option Files → (old new : Option (List ℕ)) → (Past → Type 0) → Type 0
HoldsOrKeeps known old new Holds = Keeps old new ⊎ HoldsBehind known Holds

-- The bytes spell a script, and this is its first line that delivers a message which went with the process that left the folder.
abbrev pub NamesLost : Files → (bytes : List ℕ) → (line : ℕ) → Type 0
NamesLost files bytes line =
    (script : Script) × IsScript bytes script
    × ((x : LeftBehind) × (sent : ℕ) × HasLeft files largest_batch x (Some sent) × (lost_line sent script.calls ≡ Some line))

-- the record is said, and not how many messages were sent
abbrev pub LacksNumber : Files → (count : ℕ) → FolderFault → Type 0
LacksNumber files count fault = (fault ≡ BadFile Record) × ((c : LeaderAndIsr) × HasRecord files count c None)

-- of so many nodes the folder has nothing that a run of a script has left
abbrev pub NoneToRun : Files → (count : ℕ) → FolderFault → Type 0
NoneToRun files count fault = NoneLeft files largest_batch count fault ⊎ LacksNumber files count fault

-- The folder couldn't be read, or has nothing of the nodes of the script that the bytes spell.
abbrev pub IsFolderFault : Option Files → (input : Option (List ℕ)) → FolderFault → Type 0
IsFolderFault known input fault =
    IsStop fault ⊎ IfSome known (λ files. IfSome input (λ bytes. (script : Script) × IsScript bytes script × NoneToRun files script.header.count fault))

-- the line can't stand where it stands, or delivers a message that is lost
abbrev pub IsLineFault : Option Files → (input : Option (List ℕ)) → (line : ℕ) → Type 0
IsLineFault known input line = IfSome input (λ bytes. IsFaultAt bytes line ⊎ IfSome known (λ files. NamesLost files bytes line))

-- by what a script's run is cut off that is no fault of the folder's
abbrev pub IsCut : CutRun → Type 0
IsCut (Run refusal) = IsRunRefusal refusal
IsCut (Folder fault) = Unit {0}

-- what of it comes of the reader and the writer
abbrev pub apart : {A : Type 0} → Result A CutRun → Result A Refusal
apart (Ok answer) = Ok answer
apart (Err (Run refusal)) = Err refusal
apart (Err (Folder fault)) = Err refusals.BadFolder
