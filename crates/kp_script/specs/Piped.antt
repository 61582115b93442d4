-- The answers to a script whose lines come one by one (own rule).
use Rattle.std.specs.Prelude.{◌≡◌, ◌⊎◌, ℕ, ◌+◌, ◌<◌, Bool, false, not, List, [], ◌∷◌, ◌++◌, length, take, filter, count_by, is_none, Option, None, Some, Result, Ok, Err, IfSome, IsSomeAnd}
use Rattle.std.specs.List.{AllByRecursion, enumerate_from, flat_map}
use Rattle.std.specs.Fmt.{decimal}
use Rattle.std.specs.Io.KnownBytes.{Appends}
use Rattle.kp_types.specs.Texts.{refusal_text}
use Rattle.kp_types.specs.declared.refusal.Refusal.{Refusal}
use Rattle.kp_types.specs.declared.refusal.Refusal.TheVariants.{BadScript}
use Rattle.kp_model.specs.Event.{Outcome}
use Rattle.kp_model.specs.Run.{last}
use Rattle.kp_world.specs.Shown.{IsShown, Stage}
use Rattle.kp_script.specs.Call.{Call, Header, node_of, IsHeaderText, IsCallText, SpellsNoHeader, SpellsNoCall}
use Rattle.kp_script.specs.Ended.{RunEnd, limits_in, no_stage}
use Rattle.kp_script.specs.Lines.{sent_lines, is_passed_over}
use Rattle.kp_script.specs.Reads.{Reads, ReadsInto}
use Rattle.kp_script.specs.Trace.{trace_line}
use Rattle.kp_script.specs.Transcript.{IsTraceOf, no_past}
use Rattle.kp_script.specs.declared.pipe.CutPipe.{CutPipe}

-- A line that has its line feed is passed over without an answer where it is empty or a comment. One that lacks it is not, whatever
-- stands in it (own rule).
abbrev pub is_quiet : Option (List ℕ) → Bool
is_quiet None = false
is_quiet (Some line) = is_passed_over line

abbrev pub counts : ℕ × Option (List ℕ) → Bool
counts line = not (is_quiet line.1)

-- the lines that count among these, each with its number from 1
abbrev pub counted_in : List (Option (List ℕ)) → List (ℕ × Option (List ℕ))
counted_in read = filter counts (enumerate_from 1 read)

-- What is answered to the line of this number where it can't stand where it stands: as to an event the number, a space, the refusal, and
-- a line feed.
abbrev pub fault_line : ℕ → List ℕ
fault_line number = decimal number ++ 32 ∷ refusal_text (BadScript number) ++ 10 ∷ []

abbrev pub fault_lines : List (ℕ × Option (List ℕ)) → List ℕ
fault_lines faulty = flat_map (λ line. fault_line line.0) faulty

-- The line lacks its line feed, is too long, or isn't the text of a header in range.
abbrev pub IsNoHeader : ℕ × Option (List ℕ) → Type 0
IsNoHeader line = IfSome line.1 (λ bytes. (2100000 < length bytes) ⊎ SpellsNoHeader bytes)

-- What a line behind the header says: a call, which has its line feed, or none, as each that lacks it.
abbrev pub Says : (count : ℕ) → (line : ℕ × Option (List ℕ)) → (said : ℕ × Option Call) → Type 0
Says count line (number, None) = (number ≡ line.0) × IfSome line.1 (λ bytes. SpellsNoCall count bytes)
Says count line (number, Some call) = (number ≡ line.0) × IsSomeAnd line.1 (λ bytes. IsCallText count bytes call)

abbrev pub AreSaid : (count : ℕ) → List (ℕ × Option (List ℕ)) → List (ℕ × Option Call) → Type 0
AreSaid count [] [] = Unit {0}
AreSaid count [] (said ∷ others) = ⊥
AreSaid count (line ∷ rest) [] = ⊥
AreSaid count (line ∷ rest) (said ∷ others) = Says count line said × AreSaid count rest others

-- The first of these lines that is the text of a header in range, with its line feed, is the header, and each line behind it says a call or
-- none.
pub record Heard (all : List (ℕ × Option (List ℕ))) : Type 0 where
  pub before : List (ℕ × Option (List ℕ))
  pub number : ℕ
  pub first : List ℕ
  pub rest : List (ℕ × Option (List ℕ))
  pub whole : all ≡ before ++ (number, Some first) ∷ rest
  pub no_header : AllByRecursion IsNoHeader before
  pub header : Header
  pub spelled : IsHeaderText first header
  pub said : List (ℕ × Option Call)
  pub are : AreSaid header.count rest said

-- the calls, each with the number of its line
abbrev pub calls_in : List (ℕ × Option Call) → List (ℕ × Call)
calls_in [] = []
calls_in ((number, None) ∷ said) = calls_in said
calls_in ((number, Some call) ∷ said) = (number, call) ∷ calls_in said

-- how many lines say none
abbrev pub faults_among : List (ℕ × Option Call) → ℕ
faults_among said = count_by (λ line. is_none line.1) said

-- The answers: to each call the line of the trace, with the outcomes in their order, and the fault where no call is said.
abbrev pub answers_text : List (ℕ × Option Call) → List Outcome → List ℕ
answers_text [] outcomes = []
answers_text ((number, None) ∷ said) outcomes = fault_line number ++ answers_text said outcomes
answers_text ((number, Some call) ∷ said) [] = []
answers_text ((number, Some call) ∷ said) (outcome ∷ outcomes) = trace_line number (node_of call) outcome ++ answers_text said outcomes

-- No header has come: each line is answered by its fault, and there are no nodes.
pub record IsHeadless (all : List (ℕ × Option (List ℕ))) (text : List ℕ) (ended : RunEnd) : Type 0 where
  pub no_header : AllByRecursion IsNoHeader all
  pub text_is : text ≡ fault_lines all
  pub refused_is : ended.refused ≡ length all
  pub stage_is : ended.stage ≡ no_stage

-- The header has come: the calls have a trace, and the answers are its lines, with the faults of the other lines between them.
pub record IsHeaded (all : List (ℕ × Option (List ℕ))) (text : List ℕ) (ended : RunEnd) : Type 0 where
  pub heard : Heard all
  pub plain : List ℕ
  pub refused : ℕ
  pub trace : IsTraceOf no_past heard.header.count (calls_in heard.said) plain refused
  pub text_is : text ≡ fault_lines heard.before ++ answers_text heard.said trace.outcomes
  pub refused_is : ended.refused ≡ (length heard.before + faults_among heard.said) + refused
  pub shown : IsShown (limits_in heard.header) ended.stage (last trace.played.run)

-- The text answers these lines that count, so many answers are refusals, and the run of the calls leaves this stage.
abbrev pub IsPiped : (all : List (ℕ × Option (List ℕ))) → (text : List ℕ) → RunEnd → Type 0
IsPiped all text ended = IsHeadless all text ended ⊎ IsHeaded all text ended

-- what a pipe answers: how many of its answers were refusals, and where it was cut off, by what
abbrev pub refused_in : Result RunEnd CutPipe → Result ℕ Refusal
refused_in (Ok ended) = Ok ended.refused
refused_in (Err cut) = Err cut.refusal

-- what it leaves, at its input's end and where it was cut off
abbrev pub left_by : Result RunEnd CutPipe → RunEnd
left_by (Ok ended) = ended
left_by (Err cut) = cut.piped

-- All lines have been read, and the known bytes grew by the answers to all of them.
pub record PipesTo (input old new : Option (List ℕ)) (ended : RunEnd) : Type 0 where
  pub read : List (Option (List ℕ))
  pub all : IfSome input (λ bytes. sent_lines bytes ≡ read)
  pub text : List ℕ
  pub piped : IsPiped (counted_in read) text ended
  pub written : Appends old new text

-- These lines were answered by this text, and the line behind them by none that is out; the stage is that of all of them.
pub record EndsBehind (read : List (Option (List ℕ))) (text : List ℕ) (line : Option (List ℕ)) (stage : Stage) : Type 0 where
  pub answer : List ℕ
  pub ended : RunEnd
  pub piped : IsPiped (counted_in (read ++ line ∷ [])) (text ++ answer) ended
  pub stage_is : stage ≡ ended.stage

-- Lines have been read, and the known bytes grew by the answers to all of them: but for one, the last, at most. The stage is that of the
-- lines that were answered, or of these and the last one.
pub record PipesFirst (input left old new : Option (List ℕ)) (stage : Stage) : Type 0 where
  pub read : List (Option (List ℕ))
  pub text : List ℕ
  pub ended : RunEnd
  pub piped : IsPiped (counted_in read) text ended
  pub written : Appends old new text
  pub last_read :
      (ReadsInto input left read × (stage ≡ ended.stage))
      ⊎ ((line : Option (List ℕ)) × Reads input left (read ++ line ∷ []) × ((stage ≡ ended.stage) ⊎ EndsBehind read text line stage))

-- Lines have been read, and the known bytes grew by the answers to all of them, of the last one's by a beginning alone. The stage is that
-- of all lines.
pub record PipesFront (input left old new : Option (List ℕ)) (stage : Stage) : Type 0 where
  pub read : List (Option (List ℕ))
  pub line : Option (List ℕ)
  pub last_read : Reads input left (read ++ line ∷ [])
  pub text : List ℕ
  pub answer : List ℕ
  pub ended : RunEnd
  pub piped : IsPiped (counted_in (read ++ line ∷ [])) (text ++ answer) ended
  pub stage_is : stage ≡ ended.stage
  pub earlier : RunEnd
  pub before : IsPiped (counted_in read) text earlier
  pub n : ℕ
  pub written : Appends old new (text ++ take n answer)
