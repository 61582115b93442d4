use Rattle.std.proofs.Common.{arith, ◌≡◌, ℕ, sym, ap, ◌∙◌}
use Rattle.atomic_table.specs.Table.{Me}
use Rattle.kp_board.specs.Views.{CallerView, View, caller_note, of_caller, of_note, noted}
use Rattle.kp_board.proofs.Sharing.{caller_notes_at, tells_receipts_at}
use Rattle.kp_board.proofs.board.Board.tell_receipts.Goals as goal

pub split_seat-kept-requires : goal.split_seat-kept-requires
split_seat-kept-requires g c =
    let i = c.self.invariant in
    let same = ap (λ z. z.words) i.0 in
    let w = i.2 in
    let key = c.self.inside.table.shared.key in
    let from : c.from.inside.seat.me.0 ≡ of_caller c.args.from.now = ap (λ (m : Me ℕ View). m.0) c.from.invariant.1 ∙ ap (λ (x : CallerView). let v : View = of_caller x in v) c.from.view_is in
    (c.from.invariant.0 ∙ sym i.0, omega arith, caller_notes_at key c.from.inside.seat.id c.from.inside.seat.me.0 c.args.from.now from)

pub join_seat-requires : goal.join_seat-requires
join_seat-requires g c =
    let i = c.self.invariant in
    let same = ap (λ z. z.words) i.0 in
    let w = i.2 in
    let key = c.self.inside.table.shared.key in
    let s = c.split_seat-kept.ensures in
    let from : c.from.inside.seat.me.0 ≡ of_caller c.args.from.now = ap (λ (m : Me ℕ View). m.0) c.from.invariant.1 ∙ ap (λ (x : CallerView). let v : View = of_caller x in v) c.from.view_is in
    let to : c.to.inside.seat.me.0 ≡ of_caller c.args.to.now = ap (λ (m : Me ℕ View). m.0) c.to.invariant.1 ∙ ap (λ (x : CallerView). let v : View = of_caller x in v) c.to.view_is in
    let known : c.split_seat-kept.result.me.0 ≡ of_note (caller_note c.args.from.now) = ap (λ (m : Me ℕ View). m.0) s.4 ∙ ap noted from in (
      c.to.invariant.0 ∙ sym i.0,
      s.3 ∙ c.from.invariant.0 ∙ sym i.0,
      ap (λ (m : Me ℕ View). m.1) s.4,
      omega arith,
      tells_receipts_at key c.to.inside.seat.id c.to.inside.seat.me.0 c.args.to.now c.split_seat-kept.result.id c.split_seat-kept.result.me.0 (caller_note c.args.from.now) to known,
    )
