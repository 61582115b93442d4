use Rattle.std.proofs.Common.{arith, ◌∷◌}
use Rattle.kp_words.proofs.Numbers.{one_number}
use Rattle.kp_words.proofs.below_then.Goals as goal

pub returns-then-n-limit-clause-none : goal.returns-then-n-limit-clause-none
returns-then-n-limit-clause-none c = λ n rest below e.
    let same = one_number c.args.bytes.now c.args.n n c.args.rest.now (32 ∷ rest) (omega arith) (omega arith) c.requires.ends (λ r. omega (arith, r)) c.requires.is e in
    omega (arith, same.0, c.if-n-limit.true)

pub returns-in-None-clause-none : goal.returns-in-None-clause-none
returns-in-None-clause-none c = λ n rest below e.
    let same = one_number c.args.bytes.now c.args.n n c.args.rest.now (32 ∷ rest) (omega arith) (omega arith) c.requires.ends (λ r. omega (arith, r)) c.requires.is e in
    c.in-None.ensures.none rest same.1
