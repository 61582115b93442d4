use Rattle.std.proofs.Common.{arith, ◌≡◌, ℕ, ◌∷◌, sym, ap, ◌∙◌}
use Rattle.atomic_table.specs.Table.{Me}
use Rattle.kp_board.specs.Views.{NodeView, View, of_node}
use Rattle.kp_board.proofs.Sits.{node_after}
use Rattle.kp_board.proofs.OwnWords.{loads_some}
use Rattle.kp_board.proofs.board.Board.load_end_sending.Goals as goal

pub load-requires : goal.load-requires
load-requires g c =
    let i = c.self.invariant in
    let p = c.pass.invariant in
    let now = c.args.pass.now in
    let at : c.pass.inside.seat.me.0 ≡ of_node now = ap (λ (m : Me ℕ View). m.0) p.1 ∙ ap (λ (x : NodeView). let v : View = of_node x in v) c.pass.view_is in
    let num : now.number ≡ c.pass.inside.number = sym (ap (λ (x : NodeView). x.number) c.pass.view_is) ∙ p.2 in
    let same = ap (λ z. z.words) i.0 in
    let top = p.3 in
    let key = c.self.inside.table.shared.key in
    let slots = c.self.inside.table.shared.table_id.slots in
    let may = c.requires.may in
    (p.0 ∙ sym i.0, omega arith, loads_some key slots c.pass.inside.seat.id c.pass.inside.seat.me now c.pass.inside.number may.0 g.E.SendingStep.next g.E.SendingStep.fits may.1 num at may.2 may.3 c.requires.mark)

pub invariant_of-pass : goal.invariant_of-pass
invariant_of-pass g c =
    let p = c.pass.invariant in
    let now = c.args.pass.now in
    let at : c.pass.inside.seat.me.0 ≡ of_node now = ap (λ (m : Me ℕ View). m.0) p.1 ∙ ap (λ (x : NodeView). let v : View = of_node x in v) c.pass.view_is in
    let num : now.number ≡ c.pass.inside.number = sym (ap (λ (x : NodeView). x.number) c.pass.view_is) ∙ p.2 in
    let e = c.load.ensures in
    let t = e.2 now at in
    let s = node_after c.pass.inside.seat.me c.load.new.seat.me (record now { state = g.E.SendingStep.next; told = t.0 ∷ now.told }) c.pass.inside.number t.2 (ap (λ (m : Me ℕ View). m.1) p.1) num in
    (e.0 ∙ p.0, s.0, s.1, p.3, p.4)

pub returns-clause-run : goal.returns-clause-run
returns-clause-run g c =
    let now = c.args.pass.now in
    let at : c.pass.inside.seat.me.0 ≡ of_node now = ap (λ (m : Me ℕ View). m.0) c.pass.invariant.1 ∙ ap (λ (x : NodeView). let v : View = of_node x in v) c.pass.view_is in
    (c.load.ensures.2 now at).3
