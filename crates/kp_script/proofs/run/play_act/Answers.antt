use Rattle.std.proofs.Common.{◌≡◌, [], ◌∷◌, refl}
use Rattle.std.proofs.lemmas.Result.{IfErr-at_err, IfOk-at_ok}
use Rattle.kp_types.specs.declared.limits.Limits.{Limits}
use Rattle.kp_model.specs.Event as model
use Rattle.kp_world.specs.Plays.{LeadOn}
use Rattle.kp_replica.specs.declared.act.Act.TheVariants.{Plain}
use Rattle.kp_replica.specs.Acts.{IsAct, plain_act}
use Rattle.kp_script.specs.Call.{Acts}
use Rattle.kp_script.proofs.Played.{led_one, line_cut, line_told}
use Rattle.kp_script.proofs.run.play_act.Goals as goal

pub returns-in-Ok : goal.returns-in-Ok
returns-in-Ok c =
    let node = c.args.node in
    let act = c.args.act in
    let old = c.args.world.now in
    let new = c.act-acted.new.self in
    let outcome = c.in-Ok.outcome in
    let step =
    IfOk-at_ok (λ outcome. (ls : Limits) (a : model.Act) → IsAct ls.max_batch (Plain act) a → LeadOn ls old (model.Acts node a ∷ []) (outcome ∷ []) new) c.in-Ok.is c.act-acted.ensures.step in
    line_told (c.args.line, Acts node act) old new outcome _ _ _
    (led_one (c.args.line, Acts node act) (model.Acts node (plain_act act)) outcome old new refl (λ limits batch. step limits (plain_act act) refl)) c.act-acted.ensures.count c.act-acted.ensures.first c.tell.ensures

pub returns : goal.returns
returns c =
    let old = c.args.world.now in
    let new = c.act-acted.new.self in
    line_cut (c.args.line, Acts c.args.node c.args.act) old new _ _ _ (IfErr-at_err (λ _. new ≡ old) c.in-Err.is c.act-acted.ensures.err) refl
