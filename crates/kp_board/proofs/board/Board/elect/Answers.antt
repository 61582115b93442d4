use Rattle.std.proofs.Common.{◌≡◌, ◌≤◌, Some, None, inl, inr, refl, sym, ap, subst, ◌∙◌, rules}
use Rattle.kp_types.proofs.Causes.{only_cause, only_none}
use Rattle.kp_model.specs.World.{LeaderAndIsr}
use Rattle.kp_model.specs.Controller.{elected}
use Rattle.kp_model.specs.Step.{elect_cause}
use Rattle.kp_model.specs.Set.{record_of}
use Rattle.kp_board.specs.Views.{CallerView}
use Rattle.kp_board.specs.Plays.{electing}
use Rattle.kp_board.proofs.Refusals.{handed_on}
use Rattle.kp_board.proofs.board.Board.elect.Goals as goal

pub returns-in_err-next : goal.returns-in_err-next
returns-in_err-next g c =
    let now = c.found-shown.new.pass in
    let node = c.args.node in
    let r = c.found-shown.ensures in
    let f = c.in_err-next.field-0.0 in
    let same : now.shown ≡ record_of c.found-shown.result.1 = ap (λ (x : CallerView). x.shown) r.shown in
    let cause : elect_cause now.shown node ≡ Some f = ap (λ (s : LeaderAndIsr). elect_cause s node) same ∙ only_cause _ (elect_cause (record_of c.found-shown.result.1) node) f c.in_err-next.ensures.refused in
    record {
      elected = search rules;
      refused = handed_on c.from_residual.result f _ c.from_residual.ensures.1 (inr cause);
      later = search rules;
      pass = search rules;
    }

pub returns-then-exchange : goal.returns-then-exchange
returns-then-exchange g c =
    let old = c.args.pass.now in
    let now = c.found-shown.new.pass in
    let r = c.found-shown.ensures in
    let e = c.if-exchange.ensures in
    let node = c.args.node in
    let same : now.shown ≡ record_of c.found-shown.result.1 = ap (λ (x : CallerView). x.shown) r.shown in
    let free : elect_cause (record_of c.found-shown.result.1) node ≡ None = only_none _ (elect_cause (record_of c.found-shown.result.1) node) c.in_ok-next.next c.in_ok-next.ensures.refused in
    let next : record_of c.in_ok-next.next ≡ elected now.shown node = c.in_ok-next.ensures.elected ∙ ap (λ (s : LeaderAndIsr). elected s node) (sym same) in
    record {
      elected = (
        now.shown,
        subst (λ (s : LeaderAndIsr). old.shown.version ≤ s.version) (sym same) r.later,
        subst (λ (s : LeaderAndIsr). elect_cause s node ≡ None) (sym same) free,
        next,
        e.0 ∙ ap (electing (elected now.shown node)) r.shown ∙ ap (λ (s : LeaderAndIsr). electing s old) (sym next),
        e.1,
      );
      refused = tt;
      later = search rules;
      pass = tt;
    }

pub returns-else-exchange : goal.returns-else-exchange
returns-else-exchange g c =
    let old = c.args.pass.now in
    let now = c.found-shown.new.pass in
    let r = c.found-shown.ensures in
    let node = c.args.node in
    let same : now.shown ≡ record_of c.found-shown.result.1 = ap (λ (x : CallerView). x.shown) r.shown in
    let free : elect_cause (record_of c.found-shown.result.1) node ≡ None = only_none _ (elect_cause (record_of c.found-shown.result.1) node) c.in_ok-next.next c.in_ok-next.ensures.refused in
    record {
      elected = tt;
      refused = inl (
        refl,
        record {
          found = now.shown;
          free = subst (λ (s : LeaderAndIsr). elect_cause s node ≡ None) (sym same) free;
          later = subst (λ (s : LeaderAndIsr). old.shown.version ≤ s.version) (sym same) r.later;
          passed = c.if-exchange.ensures.1;
        },
      );
      later = search rules;
      pass = search rules;
    }
