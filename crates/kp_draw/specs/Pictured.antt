-- What the picture of a script's run shows.
use Rattle.std.specs.Prelude.{◌⊎◌, ℕ, ◌&&◌, nat_le, Bool, List, [], ◌∷◌, ◌++◌, map, filter, Option, IfSome}
use Rattle.std.specs.List.{zip}
use Rattle.std.specs.Fmt.{decimal}
use Rattle.std.specs.Io.KnownBytes.{Appends, Keeps}
use Rattle.kp_types.specs.Devices.{AppendsFront}
use Rattle.kp_model.specs.Event.{Outcome}
use Rattle.kp_script.specs.Call.{Call, call_text, node_of}
use Rattle.kp_script.specs.Trace.{outcome_text}
use Rattle.kp_script.specs.Transcript.{IsTranscript, no_past}
use Rattle.kp_draw.specs.Drawing.{IsSvg}
use Rattle.kp_draw.specs.declared.lines.Lines.{Lines}

-- the line of this number is one of these
abbrev pub is_among : Lines → ℕ → Bool
is_among part number = nat_le part.from number && nat_le number part.to

-- An event's title: its line of the script, a line feed, and its line of the trace.
abbrev pub title_of : (call : ℕ × Call) → Outcome → List ℕ
title_of call outcome = (call_text call.1 ++ 10 ∷ []) ++ (decimal call.0 ++ 32 ∷ outcome_text (node_of call.1) outcome)

-- the titles of the events whose lines are among these, each call with its outcome, in their order
abbrev pub titles_of : Lines → List (ℕ × Call) → List Outcome → List (List ℕ)
titles_of part calls outcomes =
    map (λ event. title_of event.0 event.1) (filter (λ event. is_among part event.0.0) (zip calls outcomes))

-- The input spells a script, a run of the definitions has its events, and the bytes are a picture whose events are those of that run
-- whose lines are among these: each once, in their order, with its title.
pub record IsPicture (part : Lines) (input bytes : List ℕ) : Type 0 where
  pub text : List ℕ
  pub refused : ℕ
  pub transcript : IsTranscript no_past input text refused
  pub svg : IsSvg (titles_of part transcript.script.calls transcript.trace.outcomes) bytes

-- the known bytes grew by a picture of the input, where it is known
abbrev pub WritesPicture : Lines → Option (List ℕ) → Option (List ℕ) → Option (List ℕ) → Type 0
WritesPicture part input old new = IfSome input (λ bytes. (picture : List ℕ) × IsPicture part bytes picture × Appends old new picture)

-- or by a beginning of one, or stayed
abbrev pub WritesPictureFront : Lines → Option (List ℕ) → Option (List ℕ) → Option (List ℕ) → Type 0
WritesPictureFront part input old new =
    Keeps old new ⊎ IfSome input (λ bytes. (picture : List ℕ) × IsPicture part bytes picture × AppendsFront old new picture)
