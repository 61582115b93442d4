use Rattle.kp_model.specs.Beginning.{Begins}
use Rattle.std.specs.List.{AllWithin}
use Rattle.kp_race.proofs.agreement.do_agree.Given as goal

abbrev pub invariant-loop-list : goal.invariant-loop-list
invariant-loop-list l = AllWithin (λ list. Begins list.items l.longest) l.lists 0 l.list-index
