use Rattle.std.proofs.Common.{◌≡◌, Option, Some, None, sym, ap, ◌∙◌}
use Rattle.kp_types.specs.declared.refusal.Refusal.{Refusal}
use Rattle.kp_types.proofs.Causes.{only_cause, only_none}
use Rattle.kp_model.specs.World.{Decision}
use Rattle.kp_model.specs.Letter.{proposal_of}
use Rattle.kp_model.specs.Step.{decide_cause, decided_on}
use Rattle.kp_control.specs.Word.{packed}
use Rattle.kp_board.specs.Decisions.{unless_refused}
use Rattle.kp_board.proofs.decisions.word_after.Goals as goal

pub returns-in-Ok : goal.returns-in-Ok
returns-in-Ok c =
    let p = proposal_of c.args.proposal.now in
    let free : decide_cause p.known p ≡ None = only_none _ (decide_cause p.known p) c.in-Ok.decision c.in-Ok.ensures.refused in
    c.pack.ensures ∙ ap (λ (d : Decision). packed d.decided) c.in-Ok.ensures.decided ∙ ap (λ (o : Option Refusal). packed (unless_refused o (decided_on p.known p) p.known)) (sym free)

pub returns-in-Err : goal.returns-in-Err
returns-in-Err c =
    let p = proposal_of c.args.proposal.now in
    let f = c.in-Err.field-0 in
    let cause : decide_cause p.known p ≡ Some f = only_cause _ (decide_cause p.known p) f c.in-Err.ensures.refused in
    c.pack-in-Err.ensures ∙ ap (λ (o : Option Refusal). packed (unless_refused o (decided_on p.known p) p.known)) (sym cause)
