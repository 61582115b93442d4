use Rattle.std.proofs.Common.{◌≡◌, [], ◌∷◌, Some, Result, Ok, Err, map, sym, ap, ◌∙◌, subst}
use Rattle.std.proofs.lemmas.Result.{err_from_is_err_and}
use Rattle.kp_model.specs.Event.{Elect}
use Rattle.kp_model.specs.Step.{elect_cause}
use Rattle.kp_model.specs.Set.{record_of}
use Rattle.kp_model.specs.declared.record.LeaderAndIsr.{LeaderAndIsr}
use Rattle.kp_types.specs.declared.refusal.Refusal.{Refusal}
use Rattle.kp_world.specs.declared.event.EventAnswer.{EventAnswer}
use Rattle.kp_world.specs.declared.event.EventAnswer.TheVariants as answers
use Rattle.kp_world.specs.Plays.{LeadOn}
use Rattle.kp_model.specs.Letter.{letter}
use Rattle.kp_world.specs.Shown.{Stage}
use Rattle.kp_replica.specs.Broker.{node_at}
use Rattle.kp_world.proofs.Moved.{elected_on, not_elected}
use Rattle.kp_world.proofs.world.World.elect.Goals as goal
use Rattle.kp_types.proofs.Causes.{only_cause, only_none}

pub returns-in_err-changed-clause-step : goal.returns-in_err-changed-clause-step
returns-in_err-changed-clause-step c = λ limits.
    let refusal = c.in_err-changed.field-0.0 in
    let stage = c.args.self.now in
    let p = err_from_is_err_and c.from_residual.result c.from_residual.ensures.1 in
    let same : c.from_residual.result ≡ Err refusal = p.1 ∙ ap Err p.2 in
    let cause = only_cause LeaderAndIsr (elect_cause (record_of c.self.inside.controller) c.args.node) refusal c.in_err-changed.ensures.refused in
    subst (λ (r : Result EventAnswer Refusal). LeadOn limits stage (Elect c.args.node ∷ []) (r ∷ []) stage) (sym same)
    (not_elected limits c.args.node stage refusal (subst (λ (s : Stage). elect_cause s.controller c.args.node ≡ Some refusal) c.self.view_is cause))

pub returns-clause-step : goal.returns-clause-step
returns-clause-step c = λ limits.
    let old = c.self.inside.controller in
    let changed = c.in_ok-changed.changed in
    let members = map node_at c.self.inside.nodes.items in
    let letters = map letter c.self.inside.messages.items in
    let first = c.self.inside.first in
    let new : Stage = record { controller = record_of changed; nodes = members; first = first; letters = letters } in
    subst (λ (stage : Stage). LeadOn limits stage (Elect c.args.node ∷ []) (Ok (answers.Changed changed) ∷ []) new) c.self.view_is
    (elected_on limits c.args.node old changed members first letters
    (only_none LeaderAndIsr (elect_cause (record_of old) c.args.node) changed c.in_ok-changed.ensures.refused) c.in_ok-changed.ensures.elected)
