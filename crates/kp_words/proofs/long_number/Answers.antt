use Rattle.std.proofs.Common.{arith}
use Rattle.kp_words.proofs.Numbers.{digits_grow, number_above}
use Rattle.kp_words.proofs.long_number.Goals as goal

pub returns-in_default-clause-none : goal.returns-in_default-clause-none
returns-in_default-clause-none c = λ n rest fits none e.
    let loop = c.loop-i.invariant in
    let most = number_above c.args.bytes.now n rest c.loop-i.i c.loop-i.value fits none e c.loop-i-test.true loop.digits loop.value c.if-byte-lt48.false c.if-byte-gt57.false in
    c.in_default.ensures (omega arith)

pub returns-in_default-checked_add-clause-none : goal.returns-in_default-checked_add-clause-none
returns-in_default-checked_add-clause-none c = λ n rest fits none e.
    let loop = c.loop-i.invariant in
    let most = number_above c.args.bytes.now n rest c.loop-i.i c.loop-i.value fits none e c.loop-i-test.true loop.digits loop.value c.if-byte-lt48.false c.if-byte-gt57.false in
    c.in_default-checked_add.ensures (omega arith)

pub loop-i-preserved : goal.loop-i-preserved
loop-i-preserved c =
    let grown = digits_grow c.args.bytes.now c.loop-i.i c.loop-i.value c.loop-i-test.true c.loop-i.invariant.digits c.loop-i.invariant.value c.if-byte-lt48.false c.if-byte-gt57.false in
    record { digits = grown.0; value = omega (arith, grown.1, c.in-Some.ensures, c.in-Some-checked_add.ensures); fits = omega (arith, c.in-Some-checked_add.ensures) }
