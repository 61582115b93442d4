use Rattle.std.proofs.Common.{arith, ◌≡◌, ℕ, ◌++◌, sym, ap, ◌∙◌}
use Rattle.atomic_table.specs.Table.{Me}
use Rattle.kp_board.specs.Views.{NodeView, View, of_node}
use Rattle.kp_board.proofs.Sits.{node_after}
use Rattle.kp_board.proofs.OwnWords.{loads_at}
use Rattle.kp_board.proofs.board.Board.load_end.Goals as goal

pub load-requires : goal.load-requires
load-requires g c =
    let i = c.self.invariant in
    let p = c.pass.invariant in
    let now = c.args.pass.now in
    let at : c.pass.inside.seat.me.0 ≡ of_node now = ap (λ (m : Me ℕ View). m.0) p.1 ∙ ap (λ (x : NodeView). let v : View = of_node x in v) c.pass.view_is in
    let num : now.number ≡ c.pass.inside.number = sym (ap (λ (x : NodeView). x.number) c.pass.view_is) ∙ p.2 in
    let same = ap (λ z. z.words) i.0 in
    let top = p.3 in
    let key = c.self.inside.table.shared.key in
    let slots = c.self.inside.table.shared.table_id.slots in
    (p.0 ∙ sym i.0, omega arith, loads_at key slots c.pass.inside.seat.id c.pass.inside.seat.me now c.pass.inside.number c.requires.may.0 g.E.NodeStep.next g.E.NodeStep.sent num at c.requires.may.1 c.requires.mark)

pub invariant_of-pass : goal.invariant_of-pass
invariant_of-pass g c =
    let i = c.self.invariant in
    let p = c.pass.invariant in
    let now = c.args.pass.now in
    let at : c.pass.inside.seat.me.0 ≡ of_node now = ap (λ (m : Me ℕ View). m.0) p.1 ∙ ap (λ (x : NodeView). let v : View = of_node x in v) c.pass.view_is in
    let num : now.number ≡ c.pass.inside.number = sym (ap (λ (x : NodeView). x.number) c.pass.view_is) ∙ p.2 in
    let same = ap (λ z. z.words) i.0 in
    let top = p.3 in
    let key = c.self.inside.table.shared.key in
    let slots = c.self.inside.table.shared.table_id.slots in
    let e = c.load.ensures in
    let t = node_after c.pass.inside.seat.me c.load.new.seat.me (record now { state = g.E.NodeStep.next; told = g.E.NodeStep.sent ++ now.told }) c.pass.inside.number (e.2 now at).0 (ap (λ (m : Me ℕ View). m.1) p.1) num in
    (e.0 ∙ p.0, t.0, t.1, p.3, p.4)
