use Rattle.kp_words.proofs.Options.{none_weaker}
use Rattle.kp_script.proofs.Verbs.{no_call}
use Rattle.kp_script.proofs.call.any_call.Goals as goal

pub returns-in-Some-split_first_at-clause-none : goal.returns-in-Some-split_first_at-clause-none
returns-in-Some-split_first_at-clause-none c =
    let parts = c.in-Some-split_first_at.ensures.found in
    none_weaker c.call_with.result _ _ (no_call c.args.count c.args.line.now c.in-Some-split_first_at.verb.now c.in-Some-split_first_at.fields.now parts.0 parts.1) c.call_with.ensures.none
