-- What the program does, from the words of its command line to its exit status.
use Rattle.std.specs.Option.{option_map}
use Rattle.std.specs.Prelude.{◌≡◌, ◌⊎◌, ℕ, List, [], Option, Some, None, Result, Ok, Err, IfSome, string_bytes}
use Rattle.clap.specs.Words.{IsAmong, Text, fault_of, subcommand_of}
use Rattle.clap.specs.declared.error.kind.ErrorKind.{ErrorKind}
use Rattle.clap.specs.declared.error.kind.ErrorKind.TheVariants as kinds
use Rattle.kp_types.specs.Devices.{IsBegun, IsOut, Tells, device_of, faults_of}
use Rattle.kp_types.specs.Folders.{Puts}
use Rattle.kp_types.specs.declared.counted.Counted.{Counted}
use Rattle.kp_types.specs.declared.refusal.Refusal.{Refusal}
use Rattle.kp_types.specs.declared.refusal.Refusal.TheVariants.{Memory}
use Rattle.kp_race.specs.declared.outcome.Outcome.{Outcome}
use Rattle.kp_race.specs.declared.outcome.Plan.{Plan}
use Rattle.kp_cli.specs.Faults.{refusal_of}
use Rattle.kp_cli.specs.Left.{KeepsLeft, PerformsLeft, Room}
use Rattle.kp_cli.specs.Line.{IsCallOf, kpart}
use Rattle.kp_cli.specs.Perform.{Draws, Inspects, PerformsReading, RunsAndKeeps, RunsScript, Shelf, Streams, limits_of, part_of}
use Rattle.kp_cli.specs.Piped.{EndsPipe, PipesAndKeeps}
use Rattle.kp_cli.specs.Raced.{EndsRace}
use Rattle.kp_cli.specs.Told.{Prints, complaint, file_complaint, lone_reason, tamed}
use Rattle.kp_cli.specs.declared.call.Call.{Call}
use Rattle.kp_cli.specs.declared.call.Call.TheVariants.{Draw, Inspect, Pipe, Race, Run}
use Rattle.kp_cli.specs.declared.fault.Fault.{Fault}
use Rattle.kp_cli.specs.declared.fault.Fault.TheVariants as faults

-- what the program makes of its words: a call, or clap's kind of mistake; or why the words couldn't be read
pub data Asked : Type 0 where
  Asks : (call : Call) → Asked
  Mistakes : (kind : ErrorKind) → Asked
  Unread : (fault : Fault) → Asked

-- The words ask for this. Memory may run out at any words.
abbrev pub IsAsked : {A : Type 0} → (A → List Text) → Result A Fault → Asked → Type 0
IsAsked texts (Ok words) (Asks call) = IsCallOf (subcommand_of kpart (texts words)) call
IsAsked texts (Ok words) (Mistakes kind) = (kind ≡ kinds.OutOfMemory) ⊎ IsAmong kind (fault_of kpart (texts words))
IsAsked texts (Ok words) (Unread fault) = ⊥
IsAsked texts (Err fault) asked = asked ≡ Unread fault

-- what stands on standard error where the words can't be read: that one isn't UTF-8, else the refusal
abbrev pub words_complaint : Fault → List ℕ
words_complaint faults.NotText = lone_reason faults.NotText
words_complaint fault = complaint (refusal_of fault)

-- and the exit status: that of other mistakes in the words, else that of the refusal
abbrev pub words_status : Fault → ℕ
words_status faults.NotText = 2
words_status fault = 1

-- A mistake, told by this text on standard error; where that failed, a beginning of it stands there.
abbrev pub Blames : {W E : Type 0} → (E → Option (List ℕ)) → (text : List ℕ) → (out out_new : Counted W) → (err err_new : Counted E) → ℕ → Type 0
Blames told text out out_new err err_new status =
    (out_new ≡ out) × ((IsOut told err err_new text × (status ≡ 2)) ⊎ (IsBegun told err err_new text × (status ≡ 1)))

-- What words leave that are no call, by clap's kind of it and this text: help and the version, where they were asked for, and a mistake
-- else; where memory ran out, F33.
abbrev pub Explains : {W E : Type 0} → (W → Option (List ℕ)) → (E → Option (List ℕ)) → ErrorKind → (text : List ℕ) → (out out_new : Counted W) → (err err_new : Counted E) → ℕ → Type 0
Explains held told kinds.DisplayHelp text out out_new err err_new status = Prints held told text 0 out out_new err err_new status
Explains held told kinds.DisplayVersion text out out_new err err_new status = Prints held told text 0 out out_new err err_new status
Explains held told kinds.OutOfMemory text out out_new err err_new status =
    (out_new ≡ out) × Tells told err err_new (complaint Memory) × (status ≡ 1)
Explains held told _ text out out_new err err_new status = Blames told text out out_new err err_new status

-- What is told of a kind, by a text that is this one where it is known, and is shown so that no terminal obeys what it quotes. Memory may run
-- out before it is told.
abbrev pub ExplainsBy : {W E : Type 0} → (W → Option (List ℕ)) → (E → Option (List ℕ)) → ErrorKind → (known : Option (List ℕ)) → (out out_new : Counted W) → (err err_new : Counted E) → ℕ → Type 0
ExplainsBy held told kind known out out_new err err_new status =
    ((text : List ℕ) × IfSome known (λ wanted. text ≡ wanted) × Explains held told kind (tamed text) out out_new err err_new status)
    ⊎ Explains held told kinds.OutOfMemory [] out out_new err err_new status

-- what a race of so many nodes under a plan may answer
abbrev pub Races : Type 1
Races = ℕ → Plan → Result Outcome Refusal → Type 0

-- What a call leaves that is handed an open file and keeps nothing: the trace of its script, the dump of its log, its pipe's answers, or the
-- lines of its race, whatever that may answer. A pipe and a race leave the file alone.
abbrev pub PerformsCall : {F W E : Type 0} → Streams F W E → Races → (input : Option (List ℕ)) → Call
    → (file file_new : Counted F) → (out out_new : Counted W) → (err err_new : Counted E) → (status : ℕ) → Type 0
PerformsCall streams races input (Run path from keep) file file_new out out_new err err_new status =
    PerformsReading streams (string_bytes path) RunsScript file file_new out out_new err err_new status
PerformsCall streams races input (Inspect path segment_bytes index_interval) file file_new out out_new err err_new status =
    PerformsReading streams (string_bytes path) (Inspects (limits_of segment_bytes index_interval)) file file_new out out_new err err_new status
PerformsCall streams races input (Draw path from to) file file_new out out_new err err_new status =
    PerformsReading streams (string_bytes path) (Draws (part_of from to)) file file_new out out_new err err_new status
PerformsCall streams races input (Pipe keep) file file_new out out_new err err_new status =
    (file_new ≡ file) × EndsPipe streams.held streams.told input out out_new err err_new status
PerformsCall streams races input (Race nodes plan) file file_new out out_new err err_new status =
    (file_new ≡ file) × EndsRace streams.held streams.told (races nodes plan) out out_new err err_new status

-- what is known of the file, the folder and the two outputs, and besides which answers opening a path and taking the folder at a path
-- may give
pub record Known (F K W E : Type 0) : Type 1 where
  pub opens : F → List ℕ → Result (Unit {0}) Fault → F → Type 0
  pub takes : K → List ℕ → Result (Unit {0}) Fault → K → Type 0
  pub streams : Streams F W E
  pub shelf : Shelf K

-- a device of which this is left, none of whose calls has failed
abbrev pub IsLeft : {T : Type 0} → T → Counted T → Type 0
IsLeft device left = (device_of left ≡ device) × (faults_of left ≡ 0)

-- What the program is handed, a file, a folder and the two outputs, and what it leaves of them.
pub record Around (F K W E : Type 0) : Type 0 where
  pub file : F
  pub file_left : Counted F
  pub folder : K
  pub folder_left : Counted K
  pub out : Counted W
  pub out_left : Counted W
  pub err : Counted E
  pub err_left : Counted E

-- Nothing was opened and nothing taken: the file and the folder are as they were handed in.
abbrev pub TouchesNone : {F K W E : Type 0} → Around F K W E → Type 0
TouchesNone around = IsLeft around.file around.file_left × IsLeft around.folder around.folder_left

-- The file at this path was opened, and none of its calls has failed.
pub record IsOpened {F K W E : Type 0} (known : Known F K W E) (path : List ℕ) (file : F) (opened : Counted F) : Type 0 where
  pub opens : known.opens file path (Ok tt) (device_of opened)
  pub unread : faults_of opened ≡ 0

-- The folder at this path was taken, with nothing in it, and none of its calls has failed.
pub record IsTaken {F K W E : Type 0} (known : Known F K W E) (keep : List ℕ) (folder : K) (taken : Counted K) : Type 0 where
  pub takes : known.takes folder keep (Ok tt) (device_of taken)
  pub unput : faults_of taken ≡ 0
  pub empty : IfSome (known.shelf.entries (device_of taken)) (λ all. all ≡ [])

-- The file at this path can't be opened: nothing stands on standard output, the two lines on standard error, and the folder is as
-- it was handed in.
pub record EndsUnopened {F K W E : Type 0} (known : Known F K W E) (path : List ℕ) (around : Around F K W E) (status : ℕ) : Type 0 where
  pub fault : Fault
  pub opens : known.opens around.file path (Err fault) (device_of around.file_left)
  pub no_call : faults_of around.file_left ≡ 0
  pub folder_same : IsLeft around.folder around.folder_left
  pub out_same : around.out_left ≡ around.out
  pub told : Tells known.streams.told around.err around.err_left (file_complaint path fault)
  pub status_is : status ≡ 1

-- The folder at this path can't be taken: nothing has come into a folder, nothing stands on standard output, and the two lines on
-- standard error.
pub record EndsUntaken {F K W E : Type 0} (known : Known F K W E) (keep : List ℕ) (around : Around F K W E) (status : ℕ) : Type 0 where
  pub fault : Fault
  pub takes : known.takes around.folder keep (Err fault) (device_of around.folder_left)
  pub puts_none : Puts (known.shelf.entries around.folder) (known.shelf.entries (device_of around.folder_left)) []
  pub no_call : faults_of around.folder_left ≡ 0
  pub out_same : around.out_left ≡ around.out
  pub told : Tells known.streams.told around.err around.err_left (file_complaint keep fault)
  pub status_is : status ≡ 1

-- The file at this path is open, this is left of it and of the outputs, and the folder is as it was handed in.
pub record EndsRead {F K W E : Type 0} (known : Known F K W E) (path : List ℕ)
    (Leaves : (file file_new : Counted F) → (out out_new : Counted W) → (err err_new : Counted E) → ℕ → Type 0) (around : Around F K W E) (status : ℕ) : Type 0 where
  pub file : Counted F
  pub is_opened : IsOpened known path around.file file
  pub folder_same : IsLeft around.folder around.folder_left
  pub performs : Leaves file around.file_left around.out around.out_left around.err around.err_left status

-- The file at this path is open, and the folder at that one is taken: this is left of both and of the outputs.
pub record EndsKept {F K W E : Type 0} (known : Known F K W E) (path keep : List ℕ)
    (Leaves : (file file_new : Counted F) → (folder folder_new : Counted K) → (out out_new : Counted W) → (err err_new : Counted E) → ℕ → Type 0)
    (around : Around F K W E) (status : ℕ) : Type 0 where
  pub file : Counted F
  pub is_opened : IsOpened known path around.file file
  pub folder : Counted K
  pub is_taken : IsTaken known keep around.folder folder
  pub runs : Leaves file around.file_left folder around.folder_left around.out around.out_left around.err around.err_left status

-- The folder at this path is taken: what `pipe_and_keep` says, and no more.
pub record EndsPiped {F K W E : Type 0} (known : Known F K W E) (keep : List ℕ) (input : Option (List ℕ)) (around : Around F K W E) (status : ℕ) : Type 0 where
  pub folder : Counted K
  pub is_taken : IsTaken known keep around.folder folder
  pub pipes : PipesAndKeeps known.streams.held known.streams.told known.shelf keep input folder around.folder_left around.out around.out_left around.err around.err_left status

-- what a call leaves that reads the file at this path and keeps nothing
abbrev pub Reads : {F K W E : Type 0} → Known F K W E → (path : List ℕ)
    → (Leaves : (file file_new : Counted F) → (out out_new : Counted W) → (err err_new : Counted E) → ℕ → Type 0) → Around F K W E → ℕ → Type 0
Reads known path Leaves around status = EndsUnopened known path around status ⊎ EndsRead known path Leaves around status

-- what a run leaves of the script at this path, which keeps what it leaves in the folder at that one: nothing is read before it is taken
abbrev pub RunsInto : {F K W E : Type 0} → Known F K W E → (path keep : List ℕ)
    → (Leaves : (file file_new : Counted F) → (folder folder_new : Counted K) → (out out_new : Counted W) → (err err_new : Counted E) → ℕ → Type 0)
    → Around F K W E → ℕ → Type 0
RunsInto known path keep Leaves around status =
    EndsUnopened known path around status
    ⊎ ((IsOpened known path around.file around.file_left × EndsUntaken known keep around status) ⊎ EndsKept known path keep Leaves around status)

-- what a pipe leaves that keeps what it leaves in the folder at this path: no line is read before it is taken
abbrev pub PipesInto : {F K W E : Type 0} → Known F K W E → (keep : List ℕ) → (input : Option (List ℕ)) → Around F K W E → ℕ → Type 0
PipesInto known keep input around status =
    IsLeft around.file around.file_left × (EndsUntaken known keep around status ⊎ EndsPiped known keep input around status)

-- What a run leaves of the script at this path: on new nodes, or on those that another one has left in a folder, which are read by this
-- device; and with what it leaves kept, or not.
abbrev pub EndsRun : {F L K W E : Type 0} → Known F K W E → Room L → (left : L) → (path : List ℕ) → (from keep : Option (List ℕ)) → Around F K W E → ℕ → Type 0
EndsRun known room left path None None around status = Reads known path (PerformsReading known.streams path RunsScript) around status
EndsRun known room left path None (Some keep) around status = RunsInto known path keep (RunsAndKeeps known.streams known.shelf path keep) around status
EndsRun known room left path (Some from) None around status = Reads known path (PerformsLeft known.streams room left from path) around status
EndsRun known room left path (Some from) (Some keep) around status =
    RunsInto known path keep (KeepsLeft known.streams room known.shelf left from path keep) around status

-- What the program leaves that is asked for this call. Its file is opened first, then its folder is taken, then the one that it goes on from
-- is entered, then it reads.
abbrev pub EndsAsked : {F L K W E : Type 0} → Known F K W E → Room L → (left : L) → Races → (input : Option (List ℕ)) → Call → Around F K W E → ℕ → Type 0
EndsAsked known room left races input (Run path from keep) around status =
    EndsRun known room left (string_bytes path) (option_map string_bytes from) (option_map string_bytes keep) around status
EndsAsked known room left races input (Inspect path segment_bytes index_interval) around status =
    Reads known (string_bytes path) (PerformsReading known.streams (string_bytes path) (Inspects (limits_of segment_bytes index_interval))) around status
EndsAsked known room left races input (Draw path from to) around status =
    Reads known (string_bytes path) (PerformsReading known.streams (string_bytes path) (Draws (part_of from to))) around status
EndsAsked known room left races input (Pipe None) around status =
    TouchesNone around × EndsPipe known.streams.held known.streams.told input around.out around.out_left around.err around.err_left status
EndsAsked known room left races input (Pipe (Some keep)) around status = PipesInto known (string_bytes keep) input around status
EndsAsked known room left races input (Race nodes plan) around status =
    TouchesNone around × EndsRace known.streams.held known.streams.told (races nodes plan) around.out around.out_left around.err around.err_left status

-- What the program leaves. Its words are read first.
abbrev pub Ends : {F L K W E : Type 0} → Known F K W E → Room L → (left : L) → Races → (input : Option (List ℕ)) → Asked → Around F K W E → ℕ → Type 0
Ends known room left races input (Asks call) around status = EndsAsked known room left races input call around status
Ends known room left races input (Mistakes kind) around status =
    TouchesNone around
    × ExplainsBy known.streams.held known.streams.told kind None around.out around.out_left around.err around.err_left status
Ends known room left races input (Unread fault) around status =
    TouchesNone around × (around.out_left ≡ around.out) × Tells known.streams.told around.err around.err_left (words_complaint fault)
    × (status ≡ words_status fault)
