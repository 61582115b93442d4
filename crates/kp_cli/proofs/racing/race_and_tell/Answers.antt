use Rattle.std.proofs.Common.{Ok, ap, inr, subst, ◌∙◌}
use Rattle.kp_types.specs.Devices.{Tells}
use Rattle.kp_types.specs.declared.refusal.Refusal.{Refusal}
use Rattle.kp_cli.specs.Told.{complaint, status_of_refusal}
use Rattle.kp_cli.proofs.racing.race_and_tell.Goals as goal

pub returns-in-Err-write_outcome : goal.returns-in-Err-write_outcome
returns-in-Err-write_outcome g c = (
  Ok c.in-Ok.outcome,
  subst (λ (answer : _). g.X.FnOnce.post c.args.races (c.args.nodes, (c.args.plan, tt)) answer) c.in-Ok.is c.races.ensures,
  inr (
    c.in-Err-write_outcome.ensures.err,
    subst (λ (r : Refusal). Tells g.E.Write.contents c.args.err.now c.refuse.new.err (complaint r)) c.in-Err-write_outcome.ensures.only
        c.refuse.ensures.told,
    c.refuse.ensures.status ∙ ap status_of_refusal c.in-Err-write_outcome.ensures.only,
  ),
)
