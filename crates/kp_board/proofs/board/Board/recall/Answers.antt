use Rattle.std.proofs.Common.{arith, ◌≡◌, sym, ap, subst, ◌∙◌}
use Rattle.atomic_table.specs.Table.{Me, step, Allows}
use Rattle.kp_model.specs.Left.{Opening}
use mathlib.Core.Option.{none}
use Rattle.kp_board.specs.Rule.{Ruled}
use Rattle.kp_board.specs.Views.{CallerView, caller_view}
use Rattle.kp_board.specs.Plays.{Recalls, Recalled}
use Rattle.kp_board.proofs.Sits.{sits_caller, shows_caller}
use Rattle.kp_board.proofs.MarkWord.{recalls}
use Rattle.kp_board.proofs.board.Board.recall.Goals as goal

pub load-requires : goal.load-requires
load-requires g c =
    let i = c.self.invariant in
    let p = c.pass.invariant in
    let key : Opening = c.self.inside.table.shared.key in
    let wide = ap (λ z. z.words) i.0 in (
      p.0 ∙ sym i.0,
      (let w = i.2 in let e = i.4 in omega arith),
      subst (λ (o : Opening). Allows (Ruled key) c.self.inside.table.shared.table_id.slots c.pass.inside.seat.id c.pass.inside.seat.me 0 (λ x. x) (Recalled o.promised (step c.self.inside.table.shared.table_id.slots 0 0 0 none) c.pass.inside.seat.me)) i.5
          (recalls key c.self.inside.table.shared.table_id.slots c.pass.inside.seat.id c.pass.inside.seat.me (caller_view c.pass.inside.seat.me.0) (ap (λ m. m.0) p.1)),
    )

pub invariant_of-pass : goal.invariant_of-pass
invariant_of-pass g c =
    let p = c.pass.invariant in
    let e = c.load.ensures in
    let t = e.2 (caller_view c.pass.inside.seat.me.0) (ap (λ m. m.0) p.1) in
    (e.0 ∙ p.0, sits_caller c.load.new.seat.me t.0 c.pass.inside.seat.me.1 t.1 (ap (λ m. m.1) p.1))

pub returns : goal.returns
returns g c =
    let p = c.pass.invariant in
    let e = c.load.ensures in
    let t = e.2 (caller_view c.pass.inside.seat.me.0) (ap (λ m. m.0) p.1) in
    subst (λ (x : CallerView × CallerView). Recalls g.B.BoardName.table.opening.promised x.0 x.1) (λ i. (c.pass.view_is i, sym (shows_caller c.load.new.seat.me t.0 c.pass.inside.seat.me.1 t.1) i)) t.2
