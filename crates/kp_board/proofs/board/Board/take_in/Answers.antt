use Rattle.std.proofs.Common.{arith, ◌≡◌, ℕ, sym, ap, ◌∙◌}
use Rattle.atomic_table.specs.Table.{Me}
use Rattle.kp_board.specs.Views.{ClosingView, View, of_node, of_closing}
use Rattle.kp_board.proofs.TakenBack.{takes_in_at}
use Rattle.kp_board.proofs.board.Board.take_in.Goals as goal

pub join_seat-requires : goal.join_seat-requires
join_seat-requires g c =
    let i = c.self.invariant in
    let same = ap (λ z. z.words) i.0 in
    let w = i.2 in
    let key = c.self.inside.table.shared.key in
    let seat = c.into_seat-seat.result in
    let p = c.into_seat-seat.ensures in
    let to : c.closing.inside.seat.me.0 ≡ of_closing c.args.closing.now = ap (λ (m : Me ℕ View). m.0) c.closing.invariant.1 ∙ ap (λ (x : ClosingView). let v : View = of_closing x in v) c.closing.view_is in
    let from : seat.me.0 ≡ of_node c.args.node = ap (λ (m : Me ℕ View). m.0) p.1 in (
      c.closing.invariant.0 ∙ sym i.0,
      p.0 ∙ sym i.0,
      ap (λ (m : Me ℕ View). m.1) p.1,
      omega arith,
      takes_in_at key c.closing.inside.seat.id c.closing.inside.seat.me.0 c.args.closing.now seat.id seat.me.0 c.args.node to from,
    )
