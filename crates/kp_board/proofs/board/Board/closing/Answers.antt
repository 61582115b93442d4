use Rattle.std.proofs.Common.{arith, ◌≡◌, ℕ, sym, ap, ◌∙◌}
use Rattle.atomic_table.specs.Table.{Me}
use Rattle.kp_board.specs.Views.{CallerView, View, of_caller}
use Rattle.kp_board.proofs.TakenBack.{begins_closing_at}
use Rattle.kp_board.proofs.board.Board.closing.Goals as goal

pub split_seat-seat-requires : goal.split_seat-seat-requires
split_seat-seat-requires g c =
    let i = c.self.invariant in
    let p = c.pass.invariant in
    let same = ap (λ z. z.words) i.0 in
    let w = i.2 in
    let now = c.args.pass.now in
    let at : c.pass.inside.seat.me.0 ≡ of_caller now = ap (λ (m : Me ℕ View). m.0) p.1 ∙ ap (λ (x : CallerView). let v : View = of_caller x in v) c.pass.view_is in
    (p.0 ∙ sym i.0, omega arith, begins_closing_at c.self.inside.table.shared.key c.pass.inside.seat.id c.pass.inside.seat.me.0 now at)
