use Rattle.std.proofs.Common.{◌∷◌, arith}
use Rattle.kp_words.proofs.Numbers.{one_number}
use Rattle.kp_words.proofs.number_before.Goals as goal

pub returns-then-n-greatest-clause-none : goal.returns-then-n-greatest-clause-none
returns-then-n-greatest-clause-none c = λ n rest below e.
    let found = c.in-Some.ensures.found in
    let same = one_number c.args.bytes.now c.in-Some.n n c.in-Some.rest.now (c.args.end ∷ rest) found.2 (omega arith) found.1 c.requires found.0 e in
    omega (arith, same.0, c.if-n-greatest.true)

pub returns-in-None-clause-none : goal.returns-in-None-clause-none
returns-in-None-clause-none c = λ n rest below e.
    let found = c.in-Some.ensures.found in
    let same = one_number c.args.bytes.now c.in-Some.n n c.in-Some.rest.now (c.args.end ∷ rest) found.2 (omega arith) found.1 c.requires found.0 e in
    c.in-None.ensures.none rest same.1
