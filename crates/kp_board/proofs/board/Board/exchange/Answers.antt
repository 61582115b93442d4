use Rattle.std.proofs.Common.{arith, ◌≡◌, ℕ, ◌<◌, subst, sym, ap, ◌∙◌}
use Rattle.std.specs.Prelude.{MatchBool, nat_eq}
use Rattle.kp_model.specs.World.{LeaderAndIsr}
use Rattle.kp_model.specs.Controller.{elected}
use Rattle.kp_model.specs.Step.{elect_cause}
use Rattle.kp_control.specs.Word.{packed}
use Rattle.kp_board.specs.Views.{CallerView, caller_view}
use Rattle.kp_board.specs.Plays.{electing}
use Rattle.kp_board.specs.Rule.{ShowsLastRecord, ShowsElection}
use Rattle.kp_board.proofs.Sits.{elected_sits, elected_shows}
use Rattle.kp_board.proofs.RecordWord.{elects_as}
use Rattle.kp_board.proofs.board.Board.exchange.Goals as goal

pub compare_exchange-requires : goal.compare_exchange-requires
compare_exchange-requires g c =
    let i = c.self.invariant in
    let p = c.pass.invariant in
    let same = ap (λ z. z.words) i.0 in
    let w = i.2 in
    let me : CallerView = caller_view c.pass.inside.seat.me.0 in
    let shown = ap (λ (x : CallerView). x.shown) c.pass.view_is in
    let r = c.requires in (
      p.0 ∙ sym i.0,
      omega arith,
      elects_as c.self.inside.table.shared.key c.self.inside.table.shared.table_id.slots c.pass.inside.seat.id c.pass.inside.seat.me me c.args.node g.E.Election.node g.E.Election.record_after c.args.shown c.args.next
          (ap (λ m. m.0) p.1) r.node (r.shown ∙ ap packed (sym shown)) (r.after ∙ ap (λ (x : LeaderAndIsr). elected x c.args.node) (sym shown)) r.next
          (ap (λ (x : LeaderAndIsr). elect_cause x c.args.node) shown ∙ r.free),
    )

pub invariant_of-pass : goal.invariant_of-pass
invariant_of-pass g c =
    let p = c.pass.invariant in
    let e = c.compare_exchange.ensures in
    let me : CallerView = caller_view c.pass.inside.seat.me.0 in
    (e.0 ∙ p.0, elected_sits c.pass.inside.seat.me c.compare_exchange.new.seat.me me c.compare_exchange.result g.E.Election.node g.E.Election.record_after (nat_eq c.compare_exchange.result c.args.shown) (e.2 me (ap (λ m. m.0) p.1)) (ap (λ m. m.1) p.1))

pub returns : goal.returns
returns g c =
    let p = c.pass.invariant in
    let e = c.compare_exchange.ensures in
    let me : CallerView = caller_view c.pass.inside.seat.me.0 in
    let told = elected_shows c.pass.inside.seat.me c.compare_exchange.new.seat.me me c.compare_exchange.result g.E.Election.node g.E.Election.record_after (nat_eq c.compare_exchange.result c.args.shown) (e.2 me (ap (λ m. m.0) p.1)) in
    let now : CallerView = caller_view c.compare_exchange.new.seat.me.0 in
    subst (λ (x : CallerView × LeaderAndIsr × ℕ). MatchBool (nat_eq c.compare_exchange.result c.args.shown) ((now ≡ electing x.1 x.0) × ShowsElection x.2 x.0.shown now) ((now ≡ record x.0 { shown = now.shown }) × (x.0.shown.version < now.shown.version) × ShowsLastRecord now))
    (λ i. (c.pass.view_is i, c.requires.after i, c.requires.node i)) told
