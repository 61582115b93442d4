use Rattle.std.proofs.Common.{◌≡◌, ◌∷◌, ◌++◌, take, string_bytes}
use Rattle.std.specs.List.{flat_map}
use Rattle.kp_inspect.specs.Dump.{kept_text}
use Rattle.kp_inspect.proofs.text.push_recent.Given as goal

abbrev pub invariant-loop-kept : goal.invariant-loop-kept
invariant-loop-kept l =
    string_bytes l.text ≡ string_bytes l.fn.text ++ flat_map (λ kept. 32 ∷ kept_text kept) (take l.kept-index l.recent)
