-- The script that was read, apart from how it is kept.
use Rattle.std.specs.Prelude.{◌≡◌, ℕ, List, Option, IfSome}
use Rattle.std.specs.List.{flat_map}
use Rattle.kp_script.specs.Call.{Call}
use Rattle.kp_script.specs.Script.{Script, IsScript}
use Rattle.kp_script.specs.Seen.{seen_header}
use Rattle.kp_script.specs.declared.script.Script.{Script as ParsedScript}

-- the calls of all sections, in their order
abbrev pub calls_in : List (List (ℕ × Call)) → List (ℕ × Call)
calls_in sections = flat_map (λ section. section) sections

abbrev pub seen_script : ParsedScript → Script
seen_script script = record { header = seen_header script.header; calls = calls_in script.sections.items }

-- Bytes spell the script; they are the input, where it is known.
pub record IsScriptOf (input : Option (List ℕ)) (script : Script) : Type 0 where
  pub bytes : List ℕ
  pub same : IfSome input (λ all. bytes ≡ all)
  pub spelled : IsScript bytes script
