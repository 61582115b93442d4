use Rattle.std.proofs.Common.{◌+◌, ◌*◌, length, arith}
use Rattle.std.proofs.lemmas.Bool.{ltb-true}
use Rattle.kp_script.proofs.Sizes.{line_least}
use Rattle.kp_script.proofs.batches.are_too_many.Goals as goal

pub returns-then-values-gt-FEW_BYTES : goal.returns-then-values-gt-FEW_BYTES
returns-then-values-gt-FEW_BYTES c = λ large time.
    let values = c.args.values.now in
    omega (arith, ltb-true 1048576 (68 + length values + 6 * c.commas_in.result) large, c.commas_in.ensures.count, line_least time values)
