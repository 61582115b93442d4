use Rattle.std.proofs.Common.{sym, ap, ◌∙◌}
use Rattle.std.specs.Prelude.{bytes_eq}
use Rattle.kp_model.specs.Set.{members_of}
use Rattle.kp_replica.specs.Altering.{changed_isr}
use Rattle.kp_replica.specs.declared.altering.IsrChange.{IsrChange}
use Rattle.kp_replica.proofs.AlteringFacts.{never_joined}
use Rattle.kp_replica.proofs.altering.IsrChange.makes.Goals as goal

pub returns-then-contains : goal.returns-then-contains
returns-then-contains c =
    let made = c.args.made.now in
    let isr = c.args.isr.now in
    c.are_same.ensures ∙ ap (bytes_eq (members_of made)) c.with.ensures
    ∙ ap (λ (change : IsrChange). bytes_eq (members_of made) (changed_isr change (members_of isr))) (sym c.in-Join.is)

pub returns-else-contains : goal.returns-else-contains
returns-else-contains c =
    let made = c.args.made.now in
    let isr = c.args.isr.now in
    c.if-contains.false ∙ never_joined c.in-Join.member (members_of made) (members_of isr) (sym c.contains.ensures.value ∙ c.if-contains.false)
    ∙ ap (λ (change : IsrChange). bytes_eq (members_of made) (changed_isr change (members_of isr))) (sym c.in-Join.is)

pub returns-in-Leave : goal.returns-in-Leave
returns-in-Leave c =
    let made = c.args.made.now in
    let isr = c.args.isr.now in
    c.are_same-in-Leave.ensures ∙ ap (bytes_eq (members_of made)) c.without.ensures
    ∙ ap (λ (change : IsrChange). bytes_eq (members_of made) (changed_isr change (members_of isr))) (sym c.in-Leave.is)
