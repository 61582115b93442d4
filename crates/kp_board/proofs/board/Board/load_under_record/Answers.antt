use Rattle.std.proofs.Common.{arith, ◌≡◌, ℕ, sym, ap, ◌∙◌}
use Rattle.atomic_table.specs.Table.{Me}
use Rattle.kp_board.specs.Views.{NodeView, View, of_node}
use Rattle.kp_board.proofs.Sits.{node_after, shows_node}
use Rattle.kp_board.proofs.RecordWord.{steps_under}
use Rattle.kp_board.proofs.board.Board.load_under_record.Goals as goal

pub load-requires : goal.load-requires
load-requires g c =
    let i = c.self.invariant in
    let p = c.pass.invariant in
    let now = c.args.pass.now in
    let at : c.pass.inside.seat.me.0 ≡ of_node now = ap (λ (m : Me ℕ View). m.0) p.1 ∙ ap (λ (x : NodeView). let v : View = of_node x in v) c.pass.view_is in
    let num : now.number ≡ c.pass.inside.number = sym (ap (λ (x : NodeView). x.number) c.pass.view_is) ∙ p.2 in
    let same = ap (λ z. z.words) i.0 in
    let top = p.3 in
    let key = c.self.inside.table.shared.key in
    let slots = c.self.inside.table.shared.table_id.slots in
    (p.0 ∙ sym i.0, omega arith, steps_under key slots c.pass.inside.seat.id c.pass.inside.seat.me now c.requires.0 g.E.StepUnderRecord.next g.E.StepUnderRecord.knows at c.requires.1)

pub invariant_of-pass : goal.invariant_of-pass
invariant_of-pass g c =
    let i = c.self.invariant in
    let p = c.pass.invariant in
    let now = c.args.pass.now in
    let at : c.pass.inside.seat.me.0 ≡ of_node now = ap (λ (m : Me ℕ View). m.0) p.1 ∙ ap (λ (x : NodeView). let v : View = of_node x in v) c.pass.view_is in
    let num : now.number ≡ c.pass.inside.number = sym (ap (λ (x : NodeView). x.number) c.pass.view_is) ∙ p.2 in
    let same = ap (λ z. z.words) i.0 in
    let top = p.3 in
    let key = c.self.inside.table.shared.key in
    let slots = c.self.inside.table.shared.table_id.slots in
    let e = c.load.ensures in
    let x = e.2 now at in
    let t = node_after c.pass.inside.seat.me c.load.new.seat.me (record now { state = g.E.StepUnderRecord.next x.0; shown = x.0 }) c.pass.inside.number x.2 (ap (λ (m : Me ℕ View). m.1) p.1) num in
    (e.0 ∙ p.0, t.0, t.1, p.3, p.4)

pub returns : goal.returns
returns g c =
    let p = c.pass.invariant in
    let now = c.args.pass.now in
    let at : c.pass.inside.seat.me.0 ≡ of_node now = ap (λ (m : Me ℕ View). m.0) p.1 ∙ ap (λ (x : NodeView). let v : View = of_node x in v) c.pass.view_is in
    let x = c.load.ensures.2 now at in
    (x.0, x.1, shows_node c.load.new.seat.me (record now { state = g.E.StepUnderRecord.next x.0; shown = x.0 }) c.pass.inside.seat.me.1 x.2, x.3)
