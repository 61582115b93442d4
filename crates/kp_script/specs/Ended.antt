-- What a script's run leaves (own rule).
use Rattle.std.specs.Prelude.{ℕ, ◌≤◌, List, [], map, Option, None, Some, IfSome}
use Rattle.std.specs.List.{AllByRecursion}
use Rattle.std.specs.Io.KnownBytes.{Appends}
use Rattle.kp_types.specs.declared.limits.Limits.{Limits}
use Rattle.kp_log.specs.Partition.{Partition}
use Rattle.kp_model.specs.Log.{size}
use Rattle.kp_model.specs.Run.{last}
use Rattle.kp_model.specs.World.{initial}
use Rattle.kp_world.specs.Shown.{IsShown, Stage, log_of}
use Rattle.kp_script.specs.Call.{Header}
use Rattle.kp_script.specs.Transcript.{IsTranscript, Past, largest_batch}

-- the stage before any node is there
abbrev pub no_stage : Stage
no_stage = record { controller = initial 0; nodes = []; first = 0; letters = [] }

-- how many events were refused, and the stage that the run came to: the controller's record, the nodes, up or down, and the messages
pub record RunEnd : Type 0 where
  pub refused : ℕ
  pub stage : Stage

-- the stage that a run left, if there was one
abbrev pub stage_left : Option RunEnd → Stage
stage_left None = no_stage
stage_left (Some ended) = ended.stage

-- the nodes' logs, by the nodes' numbers
abbrev pub logs_of : Stage → List Partition
logs_of stage = map log_of stage.nodes

-- the limits that a header asks for
abbrev pub limits_in : Header → Limits
limits_in header = record { segment_bytes = header.segment; index_interval = header.interval; max_batch = largest_batch }

-- no batch of the log is above the greatest size
abbrev pub KeepsLimit : Partition → Type 0
KeepsLimit p = AllByRecursion (λ b. size b ≤ largest_batch) p.log

abbrev pub AreLimited : List Partition → Type 0
AreLimited logs = AllByRecursion KeepsLimit logs

-- The input spells a script, the text is the trace of its calls, and the stage shows the last world of that trace's run.
pub record EndsWith (past : Past) (input text : List ℕ) (ended : RunEnd) : Type 0 where
  pub transcript : IsTranscript past input text ended.refused
  pub shown : IsShown (limits_in transcript.script.header) ended.stage (last transcript.trace.played.run)

-- The known bytes grew by the trace of the input, where it is known, and its run left this.
abbrev pub WritesTo : Past → Option (List ℕ) → Option (List ℕ) → Option (List ℕ) → RunEnd → Type 0
WritesTo past input old new ended = IfSome input (λ bytes. (text : List ℕ) × EndsWith past bytes text ended × Appends old new text)
