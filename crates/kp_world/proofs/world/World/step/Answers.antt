use Rattle.std.proofs.Common.{[], ◌∷◌, sym, subst}
use Rattle.kp_model.specs.Event as model
use Rattle.kp_world.specs.Events.{IsEvent}
use Rattle.kp_world.specs.Plays.{LeadOn}
use Rattle.kp_world.specs.declared.event.Event.{Event}
use Rattle.kp_world.proofs.world.World.step.Goals as goal

pub returns-in-Elect-clause-step : goal.returns-in-Elect-clause-step
returns-in-Elect-clause-step c = λ limits e event.
    let is = subst (λ (d : Event). IsEvent limits.max_batch d e) c.in-Elect.is event in
    subst (λ (d : model.Event). LeadOn limits c.args.self.now (d ∷ []) (c.elect.result ∷ []) c.elect.new.self) (sym is) (c.elect.ensures.step limits)

pub returns-in-Ok-clause-step : goal.returns-in-Ok-clause-step
returns-in-Ok-clause-step c = λ limits e event.
    let told = subst (λ (d : Event). IsEvent limits.max_batch d e) c.in-Acts.is event in
    subst (λ (d : model.Event). LeadOn limits c.args.self.now (d ∷ []) (c.in-Ok.outcome ∷ []) c.act.new.self) (sym told.2) (c.in-Ok.ensures.step limits told.0 told.1)

pub returns-in-Ok-deliver-clause-step : goal.returns-in-Ok-deliver-clause-step
returns-in-Ok-deliver-clause-step c = λ limits e event.
    let is = subst (λ (d : Event). IsEvent limits.max_batch d e) c.in-Deliver.is event in
    subst (λ (d : model.Event). LeadOn limits c.args.self.now (d ∷ []) (c.in-Ok-deliver.outcome ∷ []) c.deliver.new.self) (sym is) (c.in-Ok-deliver.ensures.step limits)
