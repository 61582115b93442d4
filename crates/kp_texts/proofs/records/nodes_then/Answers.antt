use Rattle.std.proofs.Common.{arith}
use Rattle.kp_texts.proofs.RecordFronts.{same_nodes}
use Rattle.kp_texts.proofs.records.nodes_then.Goals as goal

pub returns-then-nodes-eq0-clause-none : goal.returns-then-nodes-eq0-clause-none
returns-then-nodes-eq0-clause-none c = λ nodes rest least most e.
    let found = c.in-Some.ensures.found in
    let same = same_nodes c.args.lines.now c.in-Some.rest.now rest c.in-Some.nodes nodes (omega (arith, found.1, c.from.ensures)) most found.0 e in
    omega (arith, same.0, c.if-nodes-eq0.true, least)

pub returns-in_default-clause-none : goal.returns-in_default-clause-none
returns-in_default-clause-none c = λ nodes rest least most e.
    c.in_default.ensures.none nodes rest (omega (arith, most, c.from.ensures)) e
