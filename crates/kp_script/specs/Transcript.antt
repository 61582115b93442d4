-- What running a script writes and answers.
use Rattle.std.specs.Prelude.{◌≡◌, ◌⊎◌, ℕ, Bool, true, false, List, [], ◌++◌, map, count_by, Option, IfSome, Result}
use Rattle.std.specs.Io.KnownBytes.{Appends, Keeps}
use Rattle.kp_types.specs.declared.refusal.Refusal.{Refusal}
use Rattle.kp_types.specs.declared.refusal.Refusal.TheVariants as refusals
use Rattle.kp_types.specs.Devices.{AppendsFront}
use Rattle.kp_model.specs.Event.{Event, Reply, Refused, Outcome}
use Rattle.kp_world.specs.Answers.{outcome_of}
use Rattle.kp_world.specs.Plays.{IsPlayed}
use Rattle.kp_world.specs.declared.event.EventAnswer.{EventAnswer}
use Rattle.kp_script.specs.Call.{Call, node_of}
use Rattle.kp_script.specs.Script.{Script, IsScript}
use Rattle.kp_script.specs.Told.{AreTold}
use Rattle.kp_script.specs.Trace.{trace_text}

-- the most bytes of a batch that the program takes (own rule; Kafka's `max.message.bytes` is about as much)
abbrev pub largest_batch : ℕ
largest_batch = 1048576

abbrev pub is_refusal : Reply → Bool
is_refusal (Refused refusal) = true
is_refusal _ = false

-- how many events were refused
abbrev pub refusals_in : List Outcome → ℕ
refusals_in outcomes = count_by (λ outcome. is_refusal outcome.reply) outcomes

-- the number of each call's line, and the node that the call names
abbrev pub numbered : List (ℕ × Call) → List (ℕ × ℕ)
numbered calls = map (λ call. (call.0, node_of call.1)) calls

-- What came before a script, each event with its answer: nothing, or the run that another process left.
abbrev pub Past : Type 0
Past = List (Event × Result EventAnswer Refusal)

abbrev pub no_past : Past
no_past = []

abbrev pub events_before : Past → List Event
events_before past = map (λ happened. happened.0) past

abbrev pub answers_before : Past → List (Result EventAnswer Refusal)
answers_before past = map (λ happened. happened.1) past

-- These calls tell events, a run of the definitions has these behind those of the past, and the text is the trace of what was answered to
-- them; so many of them were refused.
pub record IsTraceOf (past : Past) (count : ℕ) (calls : List (ℕ × Call)) (text : List ℕ) (refused : ℕ) : Type 0 where
  pub events : List Event
  pub told : AreTold largest_batch (map (λ call. call.1) calls) events
  pub outcomes : List Outcome
  pub played : IsPlayed count (events_before past ++ events) (map outcome_of (answers_before past) ++ outcomes)
  pub text_is : text ≡ trace_text (numbered calls) outcomes
  pub refused_is : refused ≡ refusals_in outcomes

-- The text is the trace of the first of these calls, and of no part of a call.
pub record IsTraceOfFirst (past : Past) (count : ℕ) (calls : List (ℕ × Call)) (text : List ℕ) : Type 0 where
  pub first : List (ℕ × Call)
  pub others : List (ℕ × Call)
  pub calls_are : calls ≡ first ++ others
  pub refused : ℕ
  pub trace : IsTraceOf past count first text refused

-- The input spells a script, and the text is the trace of its calls.
pub record IsTranscript (past : Past) (input text : List ℕ) (refused : ℕ) : Type 0 where
  pub script : Script
  pub spelled : IsScript input script
  pub trace : IsTraceOf past script.header.count script.calls text refused

-- The input spells a script, and the text is the trace of its first calls.
pub record IsTranscriptOfFirst (past : Past) (input text : List ℕ) : Type 0 where
  pub script : Script
  pub spelled : IsScript input script
  pub trace : IsTraceOfFirst past script.header.count script.calls text

-- The known bytes grew by the trace of the input, where it is known.
abbrev pub Writes : Past → Option (List ℕ) → Option (List ℕ) → Option (List ℕ) → ℕ → Type 0
Writes past input old new refused = IfSome input (λ bytes. (text : List ℕ) × IsTranscript past bytes text refused × Appends old new text)

-- The known bytes grew by a beginning of the trace of the input, or stayed.
abbrev pub WritesFront : Past → Option (List ℕ) → Option (List ℕ) → Option (List ℕ) → Type 0
WritesFront past input old new =
    Keeps old new ⊎ IfSome input (λ bytes. (text : List ℕ) × (refused : ℕ) × IsTranscript past bytes text refused × AppendsFront old new text)

-- The known bytes grew by the trace of the input's first calls, whole lines of a run over their events, or stayed.
abbrev pub WritesFirst : Past → Option (List ℕ) → Option (List ℕ) → Option (List ℕ) → Type 0
WritesFirst past input old new =
    Keeps old new ⊎ IfSome input (λ bytes. (text : List ℕ) × IsTranscriptOfFirst past bytes text × Appends old new text)

-- A run of a script is refused for a fault of the script, a device or memory.
abbrev pub IsRunRefusal : Refusal → Type 0
IsRunRefusal (refusals.BadScript line) = Unit {0}
IsRunRefusal refusals.Device = Unit {0}
IsRunRefusal refusals.Memory = Unit {0}
IsRunRefusal _ = ⊥
