use Rattle.std.proofs.Common.{◌≡◌, [], ◌∷◌, refl}
use Rattle.std.proofs.lemmas.Result.{IfErr-at_err, IfOk-at_ok}
use Rattle.kp_types.specs.declared.limits.Limits.{Limits}
use Rattle.kp_model.specs.Event as model
use Rattle.kp_world.specs.Plays.{LeadOn}
use Rattle.kp_script.specs.Call.{Deliver}
use Rattle.kp_script.proofs.Played.{led_one, line_cut, line_told}
use Rattle.kp_script.proofs.run.play_delivery.Goals as goal

pub returns-in-Ok : goal.returns-in-Ok
returns-in-Ok c =
    let message = c.args.message in
    let old = c.args.world.now in
    let new = c.deliver-delivered.new.self in
    let outcome = c.in-Ok.outcome in
    let step = IfOk-at_ok (λ outcome. (ls : Limits) → LeadOn ls old (model.Deliver message ∷ []) (outcome ∷ []) new) c.in-Ok.is c.deliver-delivered.ensures.step in
    line_told (c.args.line, Deliver message) old new outcome _ _ _
    (led_one (c.args.line, Deliver message) (model.Deliver message) outcome old new refl (λ limits batch. step limits)) c.deliver-delivered.ensures.count c.deliver-delivered.ensures.first c.tell.ensures

pub returns : goal.returns
returns c =
    let old = c.args.world.now in
    let new = c.deliver-delivered.new.self in
    line_cut (c.args.line, Deliver c.args.message) old new _ _ _ (IfErr-at_err (λ _. new ≡ old) c.in-Err.is c.deliver-delivered.ensures.err) refl
