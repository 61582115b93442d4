-- What is kept of a run for its picture, event by event.
use Rattle.std.specs.Prelude.{◌≡◌, ℕ, List, [], ◌∷◌, ◌++◌, map, None, Result}
use Rattle.std.specs.List.{AllByRecursion}
use Rattle.kp_types.specs.declared.refusal.Refusal.{Refusal}
use Rattle.kp_world.specs.Answers.{outcome_of}
use Rattle.kp_world.specs.Shown.{Stage}
use Rattle.kp_world.specs.declared.event.EventAnswer.{EventAnswer}
use Rattle.kp_script.specs.Call.{Call, Header, IsCall, call_text}
use Rattle.kp_script.specs.Lines.{counted_from}
use Rattle.kp_script.specs.Playing.{HasPlayed, LeadTo}
use Rattle.kp_script.specs.Transcript.{no_past}
use Rattle.kp_draw.specs.Pictured.{title_of, titles_of}
use Rattle.kp_draw.specs.declared.lines.Lines.{Lines}
use Rattle.kp_draw.specs.declared.rows.Row.{Row}

-- the titles that are kept
abbrev pub titles_kept : List Row → List (List ℕ)
titles_kept rows = map (λ row. row.title.items) rows

-- The lines that count, of which the first has this number, are the texts of these calls, which are in range where there are so many nodes.
pub record Spells (count number : ℕ) (bytes : List ℕ) (calls : List (ℕ × Call)) : Type 0 where
  pub lines : counted_from number bytes ≡ map (λ call. (call.0, call_text call.1)) calls
  pub lawful : AllByRecursion (λ call. IsCall count call.1) calls

-- The call led on to a stage, and this is its event's title.
pub record Titles (call : ℕ × Call) (old new : Stage) (title : List ℕ) : Type 0 where
  pub answer : Result EventAnswer Refusal
  pub lead : LeadTo (call ∷ []) old new (answer ∷ [])
  pub title_is : title ≡ title_of call (outcome_of answer)

-- The call led on to a stage, and its event's title stands behind the others, where its line is among these.
pub record Adds (part : Lines) (call : ℕ × Call) (old new : Stage) (before after : List (List ℕ)) : Type 0 where
  pub answer : Result EventAnswer Refusal
  pub lead : LeadTo (call ∷ []) old new (answer ∷ [])
  pub titles_are : after ≡ before ++ titles_of part (call ∷ []) (outcome_of answer ∷ [])

-- These calls led from the start to a stage, and these are the titles of their events whose lines are among these.
pub record Stands (part : Lines) (header : Header) (calls : List (ℕ × Call)) (stage : Stage) (titles : List (List ℕ)) : Type 0 where
  pub refused : ℕ
  pub played : HasPlayed no_past header calls stage refused None None
  pub titles_are : titles ≡ titles_of part calls (map outcome_of played.answers)
