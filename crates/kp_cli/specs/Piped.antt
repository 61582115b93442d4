-- What a pipe leaves (own rule).
use Rattle.std.specs.Prelude.{◌≡◌, ◌⊎◌, ℕ, ◌+◌, List, [], Option, Result, Ok, Err}
use Rattle.kp_types.specs.declared.counted.Counted.{Counted}
use Rattle.kp_types.specs.declared.refusal.Refusal.{Refusal}
use Rattle.kp_types.specs.declared.refusal.Refusal.TheVariants.{Device}
use Rattle.kp_types.specs.Devices.{CountsFaults, IsDeviceFault, device_of, faults_of}
use Rattle.kp_types.specs.Folders.{Entry}
use Rattle.kp_script.specs.Ended.{RunEnd}
use Rattle.kp_script.specs.Kept.{KeepsStage, KeepsStageFront}
use Rattle.kp_script.specs.Piped.{PipesFirst, PipesFront, PipesTo, left_by, refused_in}
use Rattle.kp_script.specs.declared.pipe.CutPipe.{CutPipe}
use Rattle.kp_cli.specs.Perform.{Complains, Shelf, status_of}
use Rattle.kp_cli.specs.Told.{reason_of}

-- What the lines of an input leave on standard output, and to be kept, where the input is known: the answers to all of them, and their
-- stage; where a device failed or a growth was refused, the answers to all that were read, but for the last one, or for the rest of the
-- last answer, and the stage of those that were answered, or of all that were read.
abbrev pub Answers : {W : Type 0} → (W → Option (List ℕ)) → (input : Option (List ℕ)) → (out out_new : Counted W) → Result RunEnd CutPipe → Type 0
Answers held input out out_new (Ok ended) =
    PipesTo input (held (device_of out)) (held (device_of out_new)) ended × (faults_of out_new ≡ faults_of out)
Answers held input out out_new (Err cut) =
    IsDeviceFault cut.refusal × ((left : Option (List ℕ))
    × ((PipesFirst input left (held (device_of out)) (held (device_of out_new)) cut.piped.stage × (faults_of out_new ≡ faults_of out))
    ⊎ (PipesFront input left (held (device_of out)) (held (device_of out_new)) cut.piped.stage
    × (faults_of out_new ≡ faults_of out + 1) × (cut.refusal ≡ Device))))

-- What a pipe leaves: its answers, and on standard error the refusal, if it was cut off.
abbrev pub EndsPipe : {W E : Type 0} → (W → Option (List ℕ)) → (E → Option (List ℕ)) → (input : Option (List ℕ))
    → (out out_new : Counted W) → (err err_new : Counted E) → (status : ℕ) → Type 0
EndsPipe held told input out out_new err err_new status =
    (outcome : Result RunEnd CutPipe) × Answers held input out out_new outcome
    × Complains told err err_new (refused_in outcome) [] × (status ≡ status_of (refused_in outcome))

-- Whether what is left has come into a folder: the controller's record and each node, or a beginning of them.
abbrev pub KeepsAll : (before after : Option (List Entry)) → RunEnd → Result (Unit {0}) Refusal → Type 0
KeepsAll before after ended (Ok done) = KeepsStage ended.stage before after
KeepsAll before after ended (Err refusal) = IsDeviceFault refusal × KeepsStageFront ended.stage before after

-- What is answered where a pipe is kept: what the pipe answers; and where some of it is missing, by what, in place of it.
abbrev pub answered_by : (piped : Result RunEnd CutPipe) → (kept : Result (Unit {0}) Refusal) → Result ℕ Refusal
answered_by piped (Ok done) = refused_in piped
answered_by piped (Err refusal) = Err refusal

-- What one leaves that is kept in the folder at this path: its answers, and in the folder its stage, whatever ended it.
pub record PipesAndKeeps {K W E : Type 0} (held : W → Option (List ℕ)) (told : E → Option (List ℕ)) (shelf : Shelf K) (keep : List ℕ) (input : Option (List ℕ))
    (folder folder_new : Counted K) (out out_new : Counted W) (err err_new : Counted E) (status : ℕ) : Type 0 where
  pub piped : Result RunEnd CutPipe
  pub answers : Answers held input out out_new piped
  pub kept : Result (Unit {0}) Refusal
  pub keeps : KeepsAll (shelf.entries (device_of folder)) (shelf.entries (device_of folder_new)) (left_by piped) kept
  pub counted : CountsFaults kept (faults_of folder) (faults_of folder_new)
  pub complains : Complains told err err_new (answered_by piped kept) (reason_of shelf.folder_fault keep (faults_of folder) folder_new)
  pub status_is : status ≡ status_of (answered_by piped kept)
