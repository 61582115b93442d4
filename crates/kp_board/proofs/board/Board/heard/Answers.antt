use Rattle.std.proofs.Common.{arith, ◌≡◌, ℕ, sym, ap, ◌∙◌}
use Rattle.atomic_table.specs.Table.{Me}
use Rattle.kp_board.specs.Views.{CallerView, View, of_caller}
use Rattle.kp_board.proofs.Sharing.{caller_sends_at}
use Rattle.kp_board.proofs.board.Board.heard.Goals as goal

pub split_seat-seat-requires : goal.split_seat-seat-requires
split_seat-seat-requires g c =
    let i = c.self.invariant in
    let same = ap (λ z. z.words) i.0 in
    let w = i.2 in
    let key = c.self.inside.table.shared.key in
    let from : c.pass.inside.seat.me.0 ≡ of_caller c.args.pass.now = ap (λ (m : Me ℕ View). m.0) c.pass.invariant.1 ∙ ap (λ (x : CallerView). let v : View = of_caller x in v) c.pass.view_is in
    (c.pass.invariant.0 ∙ sym i.0, omega arith, caller_sends_at key c.pass.inside.seat.id c.pass.inside.seat.me.0 c.args.pass.now from)
