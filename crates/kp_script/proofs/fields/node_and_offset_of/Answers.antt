use Rattle.std.proofs.Common.{[], arith}
use Rattle.kp_words.proofs.Numbers.{same_field}
use Rattle.kp_script.proofs.fields.node_and_offset_of.Goals as goal

pub returns-in-None-clause-none : goal.returns-in-None-clause-none
returns-in-None-clause-none c = λ node from inside early e.
    let found = c.in-Some.ensures.found in
    let first = same_field [] c.args.fields.now c.in-Some.node node c.in-Some.rest.now _ (omega arith) (omega arith) found.0 e in
    c.in-None.ensures.none from early first.1
