use Rattle.std.proofs.Common.{◌∙◌, ◌++◌, List, ℕ, sym, ap, arith}
use Rattle.std.proofs.lemmas.Fmt.{decimal_digit}
use Rattle.itoa.proofs.Decimal.{decimal_two}
use Rattle.kp_script.proofs.text.put_first.Goals as goal

pub returns-then-number-lt10-clause-items : goal.returns-then-number-lt10-clause-items
returns-then-number-lt10-clause-items c =
    c.push_reserved.ensures.items ∙ ap (λ (l : List ℕ). c.args.text.now.items ++ l) (sym (decimal_digit c.args.number (omega (arith, c.if-number-lt10.true))))

pub returns-else-number-lt10-clause-items : goal.returns-else-number-lt10-clause-items
returns-else-number-lt10-clause-items c =
    c.put_pair.ensures.items ∙ ap (λ (l : List ℕ). c.args.text.now.items ++ l) (sym (decimal_two c.args.number (omega (arith, c.if-number-lt10.false)) (omega (arith, c.requires.small))))
