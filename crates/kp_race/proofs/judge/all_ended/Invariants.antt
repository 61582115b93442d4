use Rattle.std.proofs.Common.{◌≡◌}
use Rattle.std.specs.Prelude.{Ok}
use Rattle.std.specs.List.{AllWithin}
use Rattle.kp_race.proofs.judge.all_ended.Given as goal

abbrev pub invariant-loop-one : goal.invariant-loop-one
invariant-loop-one g l = AllWithin (λ one. one.ended ≡ Ok tt) l.reached.items 0 l.one-index
