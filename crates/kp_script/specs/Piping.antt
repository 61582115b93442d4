-- What an answer to one line does to a pipe, whatever came before.
use Rattle.std.specs.Prelude.{◌≡◌, ◌⊎◌, ℕ, ◌+◌, List, [], ◌∷◌, ◌++◌, length, map, filter, Option, None, Some, IfSome}
use Rattle.std.specs.List.{AllByRecursion}
use Rattle.kp_types.specs.Devices.{AppendsFront}
use Rattle.kp_world.specs.Answers.{outcome_of}
use Rattle.kp_world.specs.Shown.{Stage}
use Rattle.kp_script.specs.Ended.{no_stage}
use Rattle.kp_script.specs.Piped.{Heard, IsNoHeader, answers_text, calls_in, counts, fault_lines, faults_among}
use Rattle.kp_script.specs.Playing.{HasPlayed}
use Rattle.kp_script.specs.Transcript.{no_past}
use Rattle.kp_script.specs.Reads.{Reads, ReadsInto}
use Rattle.kp_script.specs.declared.pipe.Running.{Running}

-- These lines have been answered by this text, so many times by a refusal, and their calls have led from the start to this stage.
pub record Headed (all : List (ℕ × Option (List ℕ))) (text : List ℕ) (answered : ℕ) (count : ℕ) (stage : Stage) : Type 0 where
  pub heard : Heard all
  pub count_is : heard.header.count ≡ count
  pub refused : ℕ
  pub played : HasPlayed no_past heard.header (calls_in heard.said) stage refused None None
  pub text_is : text ≡ fault_lines heard.before ++ answers_text heard.said (map outcome_of played.answers)
  pub answered_is : answered ≡ (length heard.before + faults_among heard.said) + refused

-- Before the header there are no nodes, and each line has been answered by its fault.
abbrev pub Stands : (all : List (ℕ × Option (List ℕ))) → (text : List ℕ) → (answered : ℕ) → Option Running → Type 0
Stands all text answered None = AllByRecursion IsNoHeader all × (text ≡ fault_lines all) × (answered ≡ length all)
Stands all text answered (Some running) = Headed all text answered running.count running.world

-- The line is answered by this text, so many times by a refusal, and is among the lines where it counts.
abbrev pub StandsOn : (line : ℕ × Option (List ℕ)) → (old new : Option Running) → (refused : ℕ) → (answer : List ℕ) → Type 0
StandsOn line old new refused answer =
    (all : List (ℕ × Option (List ℕ))) (text : List ℕ) (answered : ℕ) → Stands all text answered old
    → Stands (all ++ filter counts (line ∷ [])) (text ++ answer) (answered + refused) new

-- as many nodes as are counted, and no messages of an earlier process
abbrev pub HasNodes : Option Running → Type 0
HasNodes running = IfSome running (λ some. (length some.world.nodes ≡ some.count) × (some.world.first ≡ 0))

-- the stage that it has come to
abbrev pub stage_of : Option Running → Stage
stage_of None = no_stage
stage_of (Some running) = running.world

-- A pipe that was cut off at this line stands as it stood before it, or as behind some answer to it.
abbrev pub StandsCut : (line : ℕ × Option (List ℕ)) → (old new : Option Running) → Type 0
StandsCut line old new = (new ≡ old) ⊎ ((refused : ℕ) × (answer : List ℕ) × StandsOn line old new refused answer)

-- The next line, which has this number, has not been answered: it wasn't read whole, or it was.
abbrev pub Unanswered : (number : ℕ) → (left left_new : Option (List ℕ)) → (old new : Option Running) → Type 0
Unanswered number left left_new old new =
    (ReadsInto left left_new [] × (new ≡ old))
    ⊎ ((line : Option (List ℕ)) × Reads left left_new (line ∷ []) × StandsCut (number, line) old new)

-- Of the answer to the next line, which has this number, a beginning is out.
pub record AnswersFront (number : ℕ) (left left_new : Option (List ℕ)) (old new : Option Running) (known known_new : Option (List ℕ)) : Type 0 where
  pub line : Option (List ℕ)
  pub read : Reads left left_new (line ∷ [])
  pub refused : ℕ
  pub answer : List ℕ
  pub stands : StandsOn (number, line) old new refused answer
  pub begun : AppendsFront known known_new answer
