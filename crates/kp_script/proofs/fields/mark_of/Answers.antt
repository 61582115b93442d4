use Rattle.std.proofs.Common.{[], ◌∙◌, arith, codes}
use Rattle.kp_script.proofs.Markers.{handed_text}
use Rattle.kp_words.proofs.Numbers.{same_field}
use Rattle.kp_script.proofs.Verbs.{no_fields}
use Rattle.kp_script.proofs.fields.mark_of.Goals as goal

pub returns-in_default-clause-none : goal.returns-in_default-clause-none
returns-in_default-clause-none c = no_fields c.args.count (codes "mark") c.args.fields.now (λ node handed range e.
    c.in_default.ensures.none node _ range.0 e)

pub returns-in-None-clause-none : goal.returns-in-None-clause-none
returns-in-None-clause-none c = no_fields c.args.count (codes "mark") c.args.fields.now (λ node handed range e.
    let found = c.in-Some.ensures.found in
    let first = same_field [] c.args.fields.now c.in-Some.node node c.in-Some.rest.now _ (omega arith) (omega (arith, range.0)) found.0 (e ∙ handed_text node handed) in
    c.in-None.ensures.none handed first.1)
