use Rattle.std.proofs.Common.{arith, ◌<◌, ◌≤◌, ◌-◌, get_or, length}
use Rattle.kp_words.proofs.Numbers.{digit_fits, digits_grow}
use Rattle.kp_words.proofs.few_digits.Goals as goal

pub overflow_mul-value : goal.overflow_mul-value
overflow_mul-value c =
    let few : c.loop-digits.digits < 18 = omega (arith, c.loop-digits-test.true, c.loop-digits.invariant.most) in
    let fits = digit_fits c.loop-digits.digits c.loop-digits.value 0 few c.loop-digits.invariant.fits (omega arith) in
    omega (arith, fits.1)

pub overflow_add-value : goal.overflow_add-value
overflow_add-value c =
    let few : c.loop-digits.digits < 18 = omega (arith, c.loop-digits-test.true, c.loop-digits.invariant.most) in
    let digit : get_or c.args.bytes.now c.loop-digits.digits 0 - 48 ≤ 9 = omega (arith, c.if-bytes-digits-le57.true) in
    let fits = digit_fits c.loop-digits.digits c.loop-digits.value (get_or c.args.bytes.now c.loop-digits.digits 0 - 48) few c.loop-digits.invariant.fits digit in
    omega (arith, c.from.ensures, fits.1)

pub loop-digits-preserved : goal.loop-digits-preserved
loop-digits-preserved c =
    let loop = c.loop-digits.invariant in
    let few : c.loop-digits.digits < 18 = omega (arith, c.loop-digits-test.true, loop.most) in
    let here : c.loop-digits.digits < length c.args.bytes.now = omega (arith, c.loop-digits-test.true, loop.most) in
    let grown = digits_grow c.args.bytes.now c.loop-digits.digits c.loop-digits.value here loop.digits loop.value c.if-bytes-digits-ge48.true c.if-bytes-digits-le57.true in
    let digit : get_or c.args.bytes.now c.loop-digits.digits 0 - 48 ≤ 9 = omega (arith, c.if-bytes-digits-le57.true) in
    let fits = digit_fits c.loop-digits.digits c.loop-digits.value (get_or c.args.bytes.now c.loop-digits.digits 0 - 48) few loop.fits digit in
    record {
      within = omega (arith, c.loop-digits-test.true);
      most = loop.most;
      digits = grown.0;
      value = omega (arith, grown.1, c.from.ensures);
      fits = omega (arith, c.from.ensures, fits.0);
    }
