use Rattle.std.proofs.Common.{◌≡◌, ℕ, List, ◌++◌, take}
use Rattle.std.specs.List.{flat_map}
use Rattle.kp_types.specs.Devices.{IsOut}
use Rattle.kp_types.proofs.counted.Counted.write_each.Given as goal

abbrev pub invariant-loop-text : goal.invariant-loop-text
invariant-loop-text g l = (out : List ℕ) × IsOut g.W.Write.contents l.fn.self l.self out
    × (out ++ l.joined.items ≡ flat_map (λ text. text.now) (take l.text-index l.texts))
