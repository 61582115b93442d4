use Rattle.std.proofs.Common.{arith, ◌≡◌, ℕ, ap, sym, subst, ◌∙◌}
use Rattle.atomic_table.specs.Table.{Me, Splits}
use Rattle.kp_model.specs.Left.{Opening}
use Rattle.kp_board.specs.Rule.{Ruled}
use Rattle.kp_board.specs.Views.{View, founder, made_by, admitting, admitted}
use Rattle.kp_board.proofs.Sharing.{admits_as}
use Rattle.kp_board.proofs.board.Board.pass.Goals as goal

pub split_seat-seat-requires : goal.split_seat-seat-requires
split_seat-seat-requires g c =
    let i = c.self.invariant in
    let p = c.callers.invariant in
    let same = ap (λ z. z.words) i.0 in
    let w = i.2 in
    let t : Opening = g.B.BoardName.table.opening in
    let v : View = c.callers.inside.seat.me.0 in
    let id = c.callers.inside.seat.id in (
      p.0 ∙ sym i.0,
      omega arith,
      subst (λ (o : Opening). Splits (Ruled o) id v (admitting v) (admitted v)) (sym i.5)
          (admits_as t id t.count (made_by v) v (ap (λ (m : Me ℕ View). m.0) p.1)),
    )
