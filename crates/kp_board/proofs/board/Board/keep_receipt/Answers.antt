use Rattle.std.proofs.Common.{arith, ◌≡◌, ℕ, ◌∷◌, sym, ap, ◌∙◌}
use Rattle.atomic_table.specs.Table.{Me}
use Rattle.kp_board.specs.Views.{CallerView, View, of_caller}
use Rattle.kp_board.proofs.Sits.{sits_caller, shows_caller}
use Rattle.kp_board.proofs.RecordWord.{keeps_receipt}
use Rattle.kp_board.proofs.board.Board.keep_receipt.Goals as goal

pub load-requires : goal.load-requires
load-requires g c =
    let i = c.self.invariant in
    let p = c.pass.invariant in
    let now = c.args.pass.now in
    let at : c.pass.inside.seat.me.0 ≡ of_caller now = ap (λ (m : Me ℕ View). m.0) p.1 ∙ ap (λ (x : CallerView). let v : View = of_caller x in v) c.pass.view_is in
    let same = ap (λ z. z.words) i.0 in
    let w = i.2 in
    let r = c.requires in
    (p.0 ∙ sym i.0, omega arith, keeps_receipt c.self.inside.table.shared.key c.self.inside.table.shared.table_id.slots c.pass.inside.seat.id c.pass.inside.seat.me now g.E.ReceiptFiling.fits r.0 at r.1 r.2)

pub invariant_of-pass : goal.invariant_of-pass
invariant_of-pass g c =
    let p = c.pass.invariant in
    let now = c.args.pass.now in
    let at : c.pass.inside.seat.me.0 ≡ of_caller now = ap (λ (m : Me ℕ View). m.0) p.1 ∙ ap (λ (x : CallerView). let v : View = of_caller x in v) c.pass.view_is in
    let e = c.load.ensures in
    let t = e.2 now at in
    (e.0 ∙ p.0, sits_caller c.load.new.seat.me (record now { receipts = t.0 ∷ now.receipts }) c.pass.inside.seat.me.1 t.2 (ap (λ (m : Me ℕ View). m.1) p.1))

pub returns : goal.returns
returns g c =
    let p = c.pass.invariant in
    let now = c.args.pass.now in
    let at : c.pass.inside.seat.me.0 ≡ of_caller now = ap (λ (m : Me ℕ View). m.0) p.1 ∙ ap (λ (x : CallerView). let v : View = of_caller x in v) c.pass.view_is in
    let t = c.load.ensures.2 now at in
    (t.0, t.1, shows_caller c.load.new.seat.me (record now { receipts = t.0 ∷ now.receipts }) c.pass.inside.seat.me.1 t.2)
