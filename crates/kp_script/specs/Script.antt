-- What a script is, and where the first fault of one lies.
use Rattle.std.specs.Prelude.{◌≡◌, ℕ, ◌+◌, ◌≤◌, ◌⊎◌, List, [], ◌∷◌, ◌++◌, length, map}
use Rattle.std.specs.List.{AllByRecursion}
use Rattle.kp_types.specs.declared.refusal.Refusal.{Refusal}
use Rattle.kp_types.specs.declared.refusal.Refusal.TheVariants as refusals
use Rattle.kp_script.specs.Call.{Call, Header, header_text, call_text, IsHeader, IsCall, IsHeaderText, IsCallText}
use Rattle.kp_script.specs.Lines.{lines, counted}

-- a header, and calls, each with the number of its line
pub record Script : Type 0 where
  pub header : Header
  pub calls : List (ℕ × Call)

-- The lines of the bytes that count are the texts of the script's header and of its calls, in their order, with
-- nothing else, and all of these are in range.
pub record IsScript (bytes : List ℕ) (script : Script) : Type 0 where
  pub first : ℕ
  pub spelled : counted bytes ≡ (first, header_text script.header) ∷ map (λ call. (call.0, call_text call.1)) script.calls
  pub header : IsHeader script.header
  pub calls : AllByRecursion (λ call. IsCall script.header.count call.1) script.calls
  pub few : length script.calls ≤ 1000000

-- The first line is the text of some header in range, and each other one of some call in range. They are at most 1,000,000.
pub record BeginsScript (first : ℕ × List ℕ) (others : List (ℕ × List ℕ)) : Type 0 where
  pub header : Header
  pub spelled : IsHeaderText first.1 header
  pub calls : AllByRecursion (λ line. (call : Call) × IsCallText header.count line.1 call) others
  pub few : length others ≤ 1000000

-- These lines can begin a script.
abbrev pub IsLawful : List (ℕ × List ℕ) → Type 0
IsLawful [] = Unit {0}
IsLawful (first ∷ others) = BeginsScript first others

-- The lines before this one can begin a script, and with it they can't.
pub record IsFirstFault (all : List (ℕ × List ℕ)) (number : ℕ) : Type 0 where
  pub front : List (ℕ × List ℕ)
  pub bad : ℕ × List ℕ
  pub rest : List (ℕ × List ℕ)
  pub whole : all ≡ front ++ bad ∷ rest
  pub lawful : IsLawful front
  pub unlawful : ¬ IsLawful (front ++ bad ∷ [])
  pub place : number ≡ bad.0

-- The first line that can't stand where it stands has this number, or no line counts, and it is the number of lines and 1.
abbrev pub IsFaultAt : List ℕ → ℕ → Type 0
IsFaultAt bytes number = IsFirstFault (counted bytes) number ⊎ ((counted bytes ≡ []) × (number ≡ length (lines bytes) + 1))

-- A script is refused for a fault in it, or for memory.
abbrev pub IsScriptRefusal : Refusal → Type 0
IsScriptRefusal (refusals.BadScript number) = Unit {0}
IsScriptRefusal refusals.Memory = Unit {0}
IsScriptRefusal _ = ⊥
