use Rattle.std.proofs.Common.{◌≡◌, ◌∷◌, ◌++◌, take, string_bytes}
use Rattle.std.specs.List.{flat_map}
use Rattle.kp_texts.specs.Texts.{start_text}
use Rattle.kp_texts.proofs.printing.push_starts.Given as goal

abbrev pub invariant-loop-next : goal.invariant-loop-next
invariant-loop-next l =
    string_bytes l.text ≡ string_bytes l.initial.text ++ flat_map (λ s. 44 ∷ start_text s) (take l.next-index l.others)
