use Rattle.std.proofs.Common.{arith, ◌≡◌, sym, ap, subst, ◌∙◌}
use Rattle.kp_model.specs.World.{LeaderAndIsr}
use Rattle.kp_board.specs.Views.{CallerView, caller_view}
use Rattle.kp_board.specs.Rule.{ShowsLastRecord}
use Rattle.kp_board.specs.Plays.{Finds}
use Rattle.kp_board.proofs.Sits.{sits_caller, shows_caller}
use Rattle.kp_board.proofs.RecordWord.{caller_looks}
use Rattle.kp_board.proofs.board.Board.look.Goals as goal

pub load-requires : goal.load-requires
load-requires g c =
    let i = c.self.invariant in
    let p = c.pass.invariant in
    let same = ap (λ z. z.words) i.0 in
    (p.0 ∙ sym i.0, (let w = i.2 in omega arith), caller_looks c.self.inside.table.shared.key c.self.inside.table.shared.table_id.slots c.pass.inside.seat.id c.pass.inside.seat.me (caller_view c.pass.inside.seat.me.0) (ap (λ m. m.0) p.1))

pub invariant_of-pass : goal.invariant_of-pass
invariant_of-pass g c =
    let p = c.pass.invariant in
    let e = c.load.ensures in
    let me : CallerView = caller_view c.pass.inside.seat.me.0 in
    let t = e.2 me (ap (λ m. m.0) p.1) in
    (e.0 ∙ p.0, sits_caller c.load.new.seat.me (record me { shown = t.0 }) c.pass.inside.seat.me.1 t.2 (ap (λ m. m.1) p.1))

pub returns : goal.returns
returns g c =
    let p = c.pass.invariant in
    let e = c.load.ensures in
    let me : CallerView = caller_view c.pass.inside.seat.me.0 in
    let now : CallerView = caller_view c.load.new.seat.me.0 in
    let t = e.2 me (ap (λ m. m.0) p.1) in
    subst (λ (x : CallerView). (s : LeaderAndIsr) × Finds x.shown s c.load.result × (now ≡ record x { shown = s }) × ShowsLastRecord (record x { shown = s })) c.pass.view_is
    (t.0, t.1, shows_caller c.load.new.seat.me (record me { shown = t.0 }) c.pass.inside.seat.me.1 t.2, t.3)
