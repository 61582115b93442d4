use Rattle.std.proofs.Common.{arith, ◌≡◌, ℕ, sym, ap, ◌∙◌}
use Rattle.atomic_table.specs.Table.{Me}
use Rattle.kp_model.specs.World.{Message}
use Rattle.kp_board.specs.Views.{CallerView, View, of_caller, of_message}
use Rattle.kp_board.proofs.Sharing.{hears_at}
use Rattle.kp_board.proofs.board.Board.hear.Goals as goal

pub join_seat-requires : goal.join_seat-requires
join_seat-requires g c =
    let i = c.self.invariant in
    let same = ap (λ z. z.words) i.0 in
    let w = i.2 in
    let key = c.self.inside.table.shared.key in
    let to : c.pass.inside.seat.me.0 ≡ of_caller c.args.pass.now = ap (λ (m : Me ℕ View). m.0) c.pass.invariant.1 ∙ ap (λ (x : CallerView). let v : View = of_caller x in v) c.pass.view_is in
    let from : c.message.inside.seat.me.0 ≡ of_message c.args.message = ap (λ (m : Me ℕ View). m.0) c.message.invariant.1 ∙ ap (λ (x : Message). let v : View = of_message x in v) c.message.view_is in (
      c.pass.invariant.0 ∙ sym i.0,
      c.message.invariant.0 ∙ sym i.0,
      ap (λ (m : Me ℕ View). m.1) c.message.invariant.1,
      omega arith,
      hears_at key c.pass.inside.seat.id c.pass.inside.seat.me.0 c.args.pass.now c.message.inside.seat.id c.message.inside.seat.me.0 c.args.message to from,
    )
