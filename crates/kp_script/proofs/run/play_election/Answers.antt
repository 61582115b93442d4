use Rattle.std.proofs.Common.{ℕ, refl}
use Rattle.kp_model.specs.Event as model
use Rattle.kp_script.specs.Call.{Call, Elect}
use Rattle.kp_script.proofs.Played.{led_one, line_told}
use Rattle.kp_script.proofs.run.play_election.Goals as goal

pub returns : goal.returns
returns c =
    let call : ℕ × Call = (c.args.line, Elect c.args.node) in
    let old = c.args.world.now in
    let new = c.elect-elected.new.self in
    let lead = led_one call (model.Elect c.args.node) c.elect-elected.result old new refl (λ limits batch. c.elect-elected.ensures.step limits) in
    line_told call old new c.elect-elected.result _ _ _ lead c.elect-elected.ensures.count c.elect-elected.ensures.first c.tell.ensures
