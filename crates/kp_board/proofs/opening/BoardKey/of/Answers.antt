use Rattle.std.proofs.Common.{arith, ◌≡◌, ap, refl}
use Rattle.atomic_table.specs.Table.{keeps}
use Rattle.kp_board.proofs.opening.BoardKey.of.Goals as goal

pub load-requires : goal.load-requires
load-requires g c = let t = c.in_ok-table.ensures in (t.2, (let w = t.0 in omega arith), λ s h wide at low. (g.E.Left.opening, keeps, tt, tt, refl))
