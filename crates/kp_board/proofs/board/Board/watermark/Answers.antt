use Rattle.std.proofs.Common.{arith, ◌<◌, refl, subst, sym, ap, ◌∙◌}
use Rattle.kp_board.specs.Views.{CallerView, caller_view}
use Rattle.kp_board.specs.Plays.{Learned}
use Rattle.kp_board.proofs.Sits.{sits_caller, shows_caller}
use Rattle.kp_board.proofs.MarkWord.{marks_seen}
use Rattle.kp_board.proofs.board.Board.watermark.Goals as goal

pub load-requires : goal.load-requires
load-requires g c =
    let i = c.self.invariant in
    let p = c.pass.invariant in
    let same = ap (λ z. z.words) i.0 in
    let inside : c.args.node < c.self.inside.table.shared.key.count = (let k = i.1 in let r = c.requires in let w = i.2 in omega arith) in
    (p.0 ∙ sym i.0, (let w = i.2 in let k = i.1 in omega arith), marks_seen c.self.inside.table.shared.key c.self.inside.table.shared.table_id.slots c.pass.inside.seat.id c.pass.inside.seat.me (caller_view c.pass.inside.seat.me.0) c.args.node (ap (λ m. m.0) p.1) inside)

pub invariant_of-pass : goal.invariant_of-pass
invariant_of-pass g c =
    let p = c.pass.invariant in
    let e = c.load.ensures in
    let t = e.2 (caller_view c.pass.inside.seat.me.0) c.args.node (ap (λ m. m.0) p.1) refl in
    (e.0 ∙ p.0, sits_caller c.load.new.seat.me t.0 c.pass.inside.seat.me.1 t.1 (ap (λ m. m.1) p.1))

pub returns : goal.returns
returns g c =
    let p = c.pass.invariant in
    let e = c.load.ensures in
    let t = e.2 (caller_view c.pass.inside.seat.me.0) c.args.node (ap (λ m. m.0) p.1) refl in
    subst (λ (x : CallerView × CallerView). Learned x.0 x.1 c.args.node c.load.result) (λ i. (c.pass.view_is i, sym (shows_caller c.load.new.seat.me t.0 c.pass.inside.seat.me.1 t.1) i)) t.2
