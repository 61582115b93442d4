use Rattle.std.proofs.Common.{arith, ◌≡◌, ℕ, sym, ap, ◌∙◌}
use Rattle.atomic_table.specs.Table.{Me}
use Rattle.kp_model.specs.World.{Message}
use Rattle.kp_board.specs.Views.{View, of_message}
use Rattle.kp_board.proofs.Sharing.{repeats_at}
use Rattle.kp_board.proofs.board.Board.repeat.Goals as goal

pub split_seat-seat-requires : goal.split_seat-seat-requires
split_seat-seat-requires g c =
    let i = c.self.invariant in
    let same = ap (λ z. z.words) i.0 in
    let w = i.2 in
    let key = c.self.inside.table.shared.key in
    let from : c.message.inside.seat.me.0 ≡ of_message c.args.message.now = ap (λ (m : Me ℕ View). m.0) c.message.invariant.1 ∙ ap (λ (x : Message). let v : View = of_message x in v) c.message.view_is in
    (c.message.invariant.0 ∙ sym i.0, omega arith, repeats_at key c.message.inside.seat.id c.message.inside.seat.me.0 c.args.message.now from)
