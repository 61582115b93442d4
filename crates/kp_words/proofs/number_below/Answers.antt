use Rattle.std.proofs.Common.{◌≢◌, [], length, sym, ap, ◌∙◌, arith}
use Rattle.std.proofs.lemmas.Bool.{eqb-false}
use Rattle.std.proofs.lemmas.List.{append-nil}
use Rattle.kp_words.proofs.Numbers.{whole_number}
use Rattle.kp_words.proofs.number_below.Goals as goal

pub returns-in_default-clause-none : goal.returns-in_default-clause-none
returns-in_default-clause-none c = λ n below e. c.in_default.ensures.none n [] (omega arith) tt (e ∙ sym (append-nil _))

pub returns-then-n-limit-clause-none : goal.returns-then-n-limit-clause-none
returns-then-n-limit-clause-none c = λ n below e.
    let found = c.in-Some.ensures.found in
    let same = whole_number c.args.bytes.now c.in-Some.n n c.in-Some.rest.now found.2 (omega arith) found.1 found.0 e in
    omega (arith, same.0, c.if-n-limit.true)

pub returns-else-is_empty-clause-none : goal.returns-else-is_empty-clause-none
returns-else-is_empty-clause-none c = λ n below e.
    let found = c.in-Some.ensures.found in
    let same = whole_number c.args.bytes.now c.in-Some.n n c.in-Some.rest.now found.2 (omega arith) found.1 found.0 e in
    let some : length c.in-Some.rest.now ≢ 0 = eqb-false (length c.in-Some.rest.now) 0 (sym c.is_empty.ensures ∙ c.if-is_empty.false) in
    some (ap length same.1)
