use Rattle.std.proofs.Common.{◌≡◌, ℕ, sym, ap, subst, ◌∙◌}
use mathlib.Core.Option.{some}
use lib.ListN.{get_elem?}
use Rattle.atomic_table.specs.Table.{Me}
use Rattle.std.specs.Slots.{slots_items}
use Rattle.kp_model.specs.Run.{last}
use Rattle.kp_model.specs.World.{LeaderAndIsr}
use Rattle.kp_board.specs.Closing.{WasClosed}
use Rattle.kp_board.specs.Views.{ClosingView, View, of_closing}
use Rattle.kp_board.proofs.TakenBack.{closed_so, last_word}
use Rattle.kp_board.proofs.board.Board.close.Goals as goal

pub record_of_word-requires : goal.record_of_word-requires
record_of_word-requires g c =
    let f = c.close_with-closed.ensures.values.2 in
    let o = c.into_table.result.shared.key in
    ((last f.1.0.run).controller, last_word o f.0 f.1.0 (slots_items c.close_with-closed.result.words) c.word-word.result f.2 c.word-word.ensures)

pub returns-clause-left : goal.returns-clause-left
returns-clause-left g c =
    let f = c.close_with-closed.ensures.values.2 in
    let o = c.into_table.result.shared.key in
    let s = f.0 in
    let d = f.1.0 in
    let seat = c.closing.inside.seat in
    let x : ClosingView = record { seen = c.args.pass.now.seen; nodes = c.args.nodes.items } in
    let is : seat.me.0 ≡ of_closing x = ap (λ (m : Me ℕ View). m.0) c.closing.invariant.1 ∙ ap (λ (y : ClosingView). let v : View = of_closing y in v) (c.closing.view_is ∙ c.gather-closing.ensures.new) in
    let at : get_elem? s.views seat.id ≡ some (of_closing x) = f.1.1 ∙ ap some is in
    let key = c.into_table.ensures.key in
    let count : c.args.self ≡ o.count = sym (ap (λ z. z.count) key.0 ∙ key.1) in
    let was = closed_so o c.crashes_are_stops.ensures s d seat.id x at c.requires.order (c.requires.all ∙ count) in
    let word = last_word o s d (slots_items c.close_with-closed.result.words) c.word-word.result f.2 c.word-word.ensures in
    subst (λ (r : LeaderAndIsr). WasClosed r c.args.pass.now.seen c.args.nodes.items) (sym (c.record_of_word.ensures (last d.run).controller word)) was
