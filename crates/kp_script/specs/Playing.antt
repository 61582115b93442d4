-- What playing some of a script's calls does to the world and to the trace.
use Rattle.std.specs.Prelude.{◌≡◌, ◌⊎◌, ◌++◌, ◌≤◌, ℕ, List, [], ◌∷◌, drop, length, map, IfErr, IfOk, OnErr, Option, Result}
use Rattle.std.specs.List.{AllByRecursion}
use Rattle.std.specs.Io.KnownBytes.{Appends}
use Rattle.kp_types.specs.declared.limits.Limits.{Limits}
use Rattle.kp_types.specs.declared.refusal.Refusal.{Refusal}
use Rattle.kp_types.specs.declared.refusal.Refusal.TheVariants.{Memory}
use Rattle.kp_types.specs.Devices.{AppendsFront}
use Rattle.kp_model.specs.Event.{Event, Outcome}
use Rattle.kp_model.specs.Handed.{IsAtMost}
use Rattle.kp_world.specs.Answers.{outcome_of}
use Rattle.kp_world.specs.Plays.{IsReached, LeadOn}
use Rattle.kp_world.specs.Shown.{Stage}
use Rattle.kp_world.specs.declared.event.EventAnswer.{EventAnswer}
use Rattle.kp_script.specs.Call.{Call, Deliver, Header, IsCall, node_of}
use Rattle.kp_script.specs.Ended.{RunEnd, limits_in}
use Rattle.kp_script.specs.Parsed.{calls_in}
use Rattle.kp_script.specs.Told.{AreTold}
use Rattle.kp_script.specs.Trace.{trace_line, trace_text}
use Rattle.kp_script.specs.Script.{Script}
use Rattle.kp_script.specs.Transcript.{IsTraceOf, Past, answers_before, events_before, largest_batch, numbered, refusals_in}

-- the calls that are left of a script's sections, where so many of the first section are played
abbrev pub left_in : ℕ → List (List (ℕ × Call)) → List (ℕ × Call)
left_in from sections = drop from (calls_in sections)

-- The first section has so many calls, and no others.
abbrev pub IsFirstWhole : ℕ → List (List (ℕ × Call)) → Type 0
IsFirstWhole calls [] = ⊥
IsFirstWhole calls (section ∷ others) = calls ≡ length section

-- The first section has so many calls, or more.
abbrev pub IsWithin : ℕ → List (List (ℕ × Call)) → Type 0
IsWithin from [] = from ≡ 0
IsWithin from (section ∷ others) = from ≤ length section

-- a message that comes isn't one of those that went with an earlier process
abbrev pub Reaches : (first : ℕ) → Call → Type 0
Reaches first (Deliver number) = first ≤ number
Reaches first _ = Unit {0}

-- the call is in range where the stage is this one
abbrev pub MayPlay : Stage → Call → Type 0
MayPlay stage call = IsCall (length stage.nodes) call × Reaches stage.first call

-- The calls tell events that lead from a stage to another one with these answers, whatever came before.
pub record LeadTo (calls : List (ℕ × Call)) (old new : Stage) (answers : List (Result EventAnswer Refusal)) : Type 0 where
  pub events : List Event
  pub told : AreTold largest_batch (map (λ call. call.1) calls) events
  pub reach : (limits : Limits) → limits.max_batch ≡ largest_batch → LeadOn limits old events answers new

-- One call led on to a stage, and its line of the trace stands behind the text; so many refusals it answered.
pub record PlaysOne (call : ℕ × Call) (old new : Stage) (refused : ℕ) (before after : List ℕ) : Type 0 where
  pub answer : Result EventAnswer Refusal
  pub lead : LeadTo (call ∷ []) old new (answer ∷ [])
  pub refused_is : refused ≡ refusals_in (outcome_of answer ∷ [])
  pub text_is : after ≡ before ++ trace_line call.0 (node_of call.1) (outcome_of answer)

-- One call was cut off: the stage is as it was, or the call led on to it, and its line of the trace wasn't told.
abbrev pub CutsOne : (call : ℕ × Call) → (old new : Stage) → Type 0
CutsOne call old new = (new ≡ old) ⊎ ((answer : Result EventAnswer Refusal) × LeadTo (call ∷ []) old new (answer ∷ []))

-- What comes of one call that is played: whether it was refused, 1 or 0, or a want of memory.
pub record PlaysLine (call : ℕ × Call) (old new : Stage) (before after : List ℕ) (result : Result ℕ Refusal) : Type 0 where
  pub played : IfOk result (λ refused. PlaysOne call old new refused before after)
  pub cut : OnErr result (CutsOne call old new)
  pub nodes : length new.nodes ≡ length old.nodes
  pub first : new.first ≡ old.first
  pub few : IfOk result (λ refused. refused ≤ 1)
  pub only : IfErr result (λ refusal. refusal ≡ Memory)

-- The line of an event that names this node stands behind the text; what is answered says whether the event was refused.
pub record TellsLine (number node : ℕ) (outcome : Outcome) (before after : List ℕ) (result : Result ℕ Refusal) : Type 0 where
  pub told : IfOk result (λ refused. (after ≡ before ++ trace_line number node outcome) × (refused ≡ refusals_in (outcome ∷ [])))
  pub few : IfOk result (λ refused. refused ≤ 1)
  pub only : IfErr result (λ refusal. refusal ≡ Memory)

-- These calls led on to a stage, and this text is their trace.
pub record PlayedOut (calls : List (ℕ × Call)) (old new : Stage) (refused : ℕ) (text : List ℕ) : Type 0 where
  pub answers : List (Result EventAnswer Refusal)
  pub many : length answers ≡ length calls
  pub lead : LeadTo calls old new answers
  pub refused_is : refused ≡ refusals_in (map outcome_of answers)
  pub text_is : text ≡ trace_text (numbered calls) (map outcome_of answers)

-- And the known bytes grew by the trace of these calls; so many of the events were refused.
pub record PlayTo (calls : List (ℕ × Call)) (old new : Stage) (refused : ℕ) (before after : Option (List ℕ)) : Type 0 where
  pub answers : List (Result EventAnswer Refusal)
  pub lead : LeadTo calls old new answers
  pub refused_is : refused ≡ refusals_in (map outcome_of answers)
  pub written : Appends before after (trace_text (numbered calls) (map outcome_of answers))

-- And the known bytes grew by a beginning of it.
pub record BeginFrom (calls : List (ℕ × Call)) (old : Stage) (before after : Option (List ℕ)) : Type 0 where
  pub new : Stage
  pub answers : List (Result EventAnswer Refusal)
  pub lead : LeadTo calls old new answers
  pub begun : AppendsFront before after (trace_text (numbered calls) (map outcome_of answers))

-- The past led to this stage, on the nodes that the header asks for.
abbrev pub LedTo : Past → Header → Stage → Type 0
LedTo past header stage = IsReached header.count (limits_in header) (events_before past) (answers_before past) stage

-- no batch of it was above the greatest size
abbrev pub WereSmall : Past → Type 0
WereSmall past = AllByRecursion (IsAtMost largest_batch) (events_before past)

-- These calls of a script with this header have been played behind that past, and their trace is out.
pub record HasPlayed (past : Past) (header : Header) (done : List (ℕ × Call)) (stage : Stage) (refused : ℕ) (old now : Option (List ℕ)) : Type 0 where
  pub events : List Event
  pub told : AreTold largest_batch (map (λ call. call.1) done) events
  pub answers : List (Result EventAnswer Refusal)
  pub reached : IsReached header.count (limits_in header) (events_before past ++ events) (answers_before past ++ answers) stage
  pub refused_is : refused ≡ refusals_in (map outcome_of answers)
  pub written : Appends old now (trace_text (numbered done) (map outcome_of answers))

-- All calls of the script have been played behind that past, and have left this.
pub record HasPlayedAll (past : Past) (script : Script) (ended : RunEnd) (old now : Option (List ℕ)) : Type 0 where
  pub stage : Stage
  pub nodes : length stage.nodes ≡ script.header.count
  pub played : HasPlayed past script.header script.calls stage ended.refused old now
  pub stage_is : ended.stage ≡ stage

-- The first ones have.
pub record HasPlayedFirst (past : Past) (script : Script) (old now : Option (List ℕ)) : Type 0 where
  pub done : List (ℕ × Call)
  pub others : List (ℕ × Call)
  pub calls_are : script.calls ≡ done ++ others
  pub stage : Stage
  pub refused : ℕ
  pub played : HasPlayed past script.header done stage refused old now

-- a beginning of the trace of these calls has come behind the known bytes
abbrev pub Front : (past : Past) (count : ℕ) (calls : List (ℕ × Call)) → Option (List ℕ) → Option (List ℕ) → Type 0
Front past count calls old new = (text : List ℕ) × (refused : ℕ) × IsTraceOf past count calls text refused × AppendsFront old new text
