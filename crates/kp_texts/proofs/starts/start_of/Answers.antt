use Rattle.std.proofs.Common.{[], arith}
use Rattle.std.specs.Fmt.{decimal}
use Rattle.kp_words.proofs.Numbers.{same_between}
use Rattle.kp_texts.proofs.starts.start_of.Goals as goal

pub returns-in-None-clause-none : goal.returns-in-None-clause-none
returns-in-None-clause-none c = λ s range e.
    let found = c.in-Some.ensures.found in
    let first = same_between [] c.args.piece.now 58 c.in-Some.epoch s.epoch c.in-Some.rest.now (decimal s.start) (λ r. omega (arith, r)) (omega (arith, found.1)) (omega (arith, range.0)) found.0 e in
    c.in-None.ensures.none s.start (omega (arith, range.1)) first.1
