use Rattle.std.proofs.Common.{arith, ◌≡◌, ℕ, sym, ap, subst, ◌∙◌}
use Rattle.atomic_table.specs.Table.{Me}
use Rattle.kp_model.specs.Letter.{proposal_of}
use Rattle.kp_model.specs.Step.{decide_cause}
use Rattle.kp_board.specs.Views.{CallerView, View, of_caller}
use Rattle.kp_board.specs.Decisions.{ShowsAfter}
use Rattle.kp_board.proofs.Sits.{sits_caller, shows_caller}
use Rattle.kp_board.proofs.Deciding.{decides_at}
use Rattle.kp_board.proofs.board.Board.exchange_decided.Goals as goal

pub compare_exchange-requires : goal.compare_exchange-requires
compare_exchange-requires g c =
    let i = c.self.invariant in
    let p = c.pass.invariant in
    let now = c.args.pass.now in
    let at : c.pass.inside.seat.me.0 ≡ of_caller now = ap (λ (m : Me ℕ View). m.0) p.1 ∙ ap (λ (x : CallerView). let v : View = of_caller x in v) c.pass.view_is in
    let same = ap (λ z. z.words) i.0 in
    let w = i.2 in (
      p.0 ∙ sym i.0,
      omega arith,
      decides_at c.self.inside.table.shared.key c.self.inside.table.shared.table_id.slots c.pass.inside.seat.id c.pass.inside.seat.me now (proposal_of c.args.proposal.now) c.pack-old.result c.word_after-new.result
          at c.requires c.is_in_range.ensures c.pack-old.ensures c.word_after-new.ensures,
    )

pub invariant_of-pass : goal.invariant_of-pass
invariant_of-pass g c =
    let p = proposal_of c.args.proposal.now in
    let i = c.pass.invariant in
    let now = c.args.pass.now in
    let at : c.pass.inside.seat.me.0 ≡ of_caller now = ap (λ (m : Me ℕ View). m.0) i.1 ∙ ap (λ (x : CallerView). let v : View = of_caller x in v) c.pass.view_is in
    let e = c.compare_exchange.ensures in
    let t = (e.2 now p at c.requires).2 in
    (e.0 ∙ i.0, sits_caller c.compare_exchange.new.seat.me t.0 c.pass.inside.seat.me.1 t.1 (ap (λ (m : Me ℕ View). m.1) i.1))

pub returns : goal.returns
returns g c =
    let p = proposal_of c.args.proposal.now in
    let now = c.args.pass.now in
    let at : c.pass.inside.seat.me.0 ≡ of_caller now = ap (λ (m : Me ℕ View). m.0) c.pass.invariant.1 ∙ ap (λ (x : CallerView). let v : View = of_caller x in v) c.pass.view_is in
    let t = c.compare_exchange.ensures.2 now p at c.requires in
    (t.0, t.1, subst (ShowsAfter (decide_cause t.0 p) t.0 p now) (sym (shows_caller c.compare_exchange.new.seat.me t.2.0 c.pass.inside.seat.me.1 t.2.1)) t.2.2)
