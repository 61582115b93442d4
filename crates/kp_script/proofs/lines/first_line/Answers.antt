use Rattle.std.proofs.Common.{◌≡◌, ◌≢◌, ◌∷◌, ◌++◌, sym, ap, ◌∙◌, arith, length, length-append}
use Rattle.std.proofs.lemmas.Bool.{eqb-false}
use Rattle.kp_script.specs.Lines.{lines}
use Rattle.kp_script.proofs.LineLaws.{lines_first, lines_last}
use Rattle.kp_script.proofs.lines.first_line.Goals as goal

pub returns-in-Some-clause-found : goal.returns-in-Some-clause-found
returns-in-Some-clause-found c =
    let found = c.in-Some.ensures.found in
    let whole : c.args.bytes.now ≡ c.in-Some.line.now ++ 10 ∷ c.in-Some.rest.now = found.0 in (
      ap lines whole ∙ lines_first c.in-Some.line.now c.in-Some.rest.now found.1,
      omega (arith, ap length whole, length-append c.in-Some.line.now (10 ∷ c.in-Some.rest.now)),
    )

pub returns-clause-found : goal.returns-clause-found
returns-clause-found c =
    let some : length c.args.bytes.now ≢ 0 = eqb-false (length c.args.bytes.now) 0 (sym c.is_empty.ensures ∙ c.if-is_empty.false) in
    (lines_last c.args.bytes.now c.in_default.ensures.none (omega arith), omega arith)
