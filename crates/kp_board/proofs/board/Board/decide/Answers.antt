use Rattle.std.proofs.Common.{◌≡◌, ◌<◌, ◌≤◌, length, arith, List, Option, Some, None, sym, ap, subst, ◌∙◌}
use Rattle.kp_types.specs.declared.refusal.Refusal.{Refusal}
use Rattle.kp_types.proofs.Causes.{only_cause, only_none}
use Rattle.kp_model.specs.World.{LeaderAndIsr, Message, Decision, Decides}
use Rattle.kp_model.specs.Letter.{Letter, letter, letter_of, proposal_of, decision_of, Deciding}
use Rattle.kp_model.specs.Set.{record_of}
use Rattle.kp_model.specs.Step.{decide_cause, decision}
use Rattle.kp_board.specs.Views.{CallerView}
use Rattle.kp_board.specs.Decisions.{IsUndecided, ShowsAfter, ShowsDecision, deciding}
use Rattle.kp_board.proofs.Deciding.{is_newer, told_first}
use Rattle.kp_board.proofs.board.Board.decide.Goals as goal

pub returns-in-Err : goal.returns-in-Err
returns-in-Err g c =
    let p = proposal_of c.in-Proposal.proposal in
    let x = c.exchange_decided-found.ensures in
    let y = c.exchange_decided-found.new.pass in
    let f = c.in-Err.refusal in
    let same : record_of c.record_of_word.result ≡ x.0 = c.record_of_word.ensures x.0 x.1.is in
    let cause : decide_cause x.0 p ≡ Some f = ap (λ (s : LeaderAndIsr). decide_cause s p) (sym same) ∙ only_cause _ (decide_cause (record_of c.record_of_word.result) p) f c.in-Err.ensures.refused in
    let shows = subst (λ (o : Option Refusal). ShowsAfter o x.0 p c.hear.new.pass y) cause x.2 in
    let shown : y.shown ≡ x.0 = ap (λ (v : CallerView). v.shown) shows.0 in
    let now = shows.0 ∙ ap (λ (v : CallerView). record v { shown = x.0 }) c.hear.ensures in
    record {
      decided = tt;
      newer = tt;
      refused = subst (λ (l : Letter). IsUndecided l c.args.pass.now y f) (sym (ap letter (sym c.into_parts-body.ensures.body ∙ c.in-Proposal.is)))
          (ap (λ (s : LeaderAndIsr). decide_cause s p) shown ∙ cause, shows.1);
      pass = now ∙ (λ i. record c.args.pass.now { sent = (sym now i).sent; shown = (sym now i).shown });
    }

pub returns-in-Ok : goal.returns-in-Ok
returns-in-Ok g c =
    let p = proposal_of c.in-Proposal.proposal in
    let x = c.exchange_decided-found.ensures in
    let same : record_of c.record_of_word.result ≡ x.0 = c.record_of_word.ensures x.0 x.1.is in
    let free : decide_cause x.0 p ≡ None = ap (λ (s : LeaderAndIsr). decide_cause s p) (sym same) ∙ only_none _ (decide_cause (record_of c.record_of_word.result) p) c.in-Ok.decision c.in-Ok.ensures.refused in
    let shows = subst (λ (o : Option Refusal). ShowsAfter o x.0 p c.hear.new.pass c.exchange_decided-found.new.pass) free x.2 in
    let made : decision_of c.in-Ok.decision ≡ decision x.0 p = c.in-Ok.ensures.decided ∙ ap (λ (s : LeaderAndIsr). decision s p) same in
    let sent = ap (λ (v : CallerView). v.sent) shows.0 in
    let stays = c.heard-answer.ensures.same in
    let shown = ap (λ (v : CallerView). v.shown) c.hear.ensures in
    record {
      decided = (
        p,
        x.0,
        ap letter (sym c.into_parts-body.ensures.body ∙ c.in-Proposal.is),
        told_first c.exchange_decided-found.new.pass.sent (Decides (decision x.0 p)) c.heard-answer.result sent c.heard-answer.ensures.message,
        ap (λ (d : Decision). Deciding d) made,
        free,
        subst (λ (s : LeaderAndIsr). s.version ≤ x.0.version) shown x.1.later,
        stays ∙ shows.0 ∙ ap (deciding x.0 p) c.hear.ensures,
        subst (ShowsDecision p x.0) (sym stays) shows.1,
      );
      newer = (decision x.0 p, ap (λ (d : Decision). Deciding d) made, is_newer p x.0 c.exchange_decided-found.new.pass shows.1);
      refused = tt;
      pass = tt;
    }

pub invariant_of-result : goal.invariant_of-result
invariant_of-result g c =
    let p = proposal_of c.in-Proposal.proposal in
    let x = c.exchange_decided-found.ensures in
    let same : record_of c.record_of_word.result ≡ x.0 = c.record_of_word.ensures x.0 x.1.is in
    let free : decide_cause x.0 p ≡ None = ap (λ (s : LeaderAndIsr). decide_cause s p) (sym same) ∙ only_none _ (decide_cause (record_of c.record_of_word.result) p) c.in-Ok.decision c.in-Ok.ensures.refused in
    let shows = subst (λ (o : Option Refusal). ShowsAfter o x.0 p c.hear.new.pass c.exchange_decided-found.new.pass) free x.2 in
    let made : decision_of c.in-Ok.decision ≡ decision x.0 p = c.in-Ok.ensures.decided ∙ ap (λ (s : LeaderAndIsr). decision s p) same in
    let sent = ap (λ (v : CallerView). v.sent) shows.0 in
    let is = told_first c.exchange_decided-found.new.pass.sent (Decides (decision x.0 p)) c.heard-answer.result sent c.heard-answer.ensures.message in
    record { tied = ap letter_of is ∙ ap (λ (d : Decision). Deciding d) (sym made) }

pub heard-answer-requires : goal.heard-answer-requires
heard-answer-requires g c =
    let p = proposal_of c.in-Proposal.proposal in
    let x = c.exchange_decided-found.ensures in
    let same : record_of c.record_of_word.result ≡ x.0 = c.record_of_word.ensures x.0 x.1.is in
    let free : decide_cause x.0 p ≡ None = ap (λ (s : LeaderAndIsr). decide_cause s p) (sym same) ∙ only_none _ (decide_cause (record_of c.record_of_word.result) p) c.in-Ok.decision c.in-Ok.ensures.refused in
    let shows = subst (λ (o : Option Refusal). ShowsAfter o x.0 p c.hear.new.pass c.exchange_decided-found.new.pass) free x.2 in
    subst (λ (ls : List Message). 0 < length ls) (sym (ap (λ (v : CallerView). v.sent) shows.0)) (omega arith)
