use Rattle.std.proofs.Common.{◌≡◌, ◌≤◌, [], length, map}
use Rattle.std.specs.Prelude.{Contains, ◌⊎◌}
use Rattle.std.specs.List.{AllWithin}
use Rattle.kp_race.proofs.agreement.longest_of.Given as goal

abbrev pub invariant-loop-list : goal.invariant-loop-list
invariant-loop-list l = record {
  among : (l.longest ≡ []) ⊎ Contains (map (λ list. list.items) l.lists) l.longest;
  longest : AllWithin (λ list. length list.items ≤ length l.longest) l.lists 0 l.list-index;
}
