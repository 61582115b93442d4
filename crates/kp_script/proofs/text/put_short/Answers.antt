use Rattle.std.proofs.Common.{◌≡◌, ◌∙◌, ◌/◌, ◌%◌, ◌++◌, List, ℕ, sym, ap, append_assoc, arith}
use Rattle.std.specs.Fmt.{decimal}
use Rattle.itoa.proofs.Decimal.{decimal_pair, decimal_four, pair}
use Rattle.kp_script.proofs.text.put_short.Goals as goal

pub returns-then-number-lt10000-clause-items : goal.returns-then-number-lt10000-clause-items
returns-then-number-lt10000-clause-items c =
    let n = c.args.number in
    let old = c.args.text.now.items in
    c.put_pair.ensures.items ∙ ap (λ (l : List ℕ). l ++ pair (n % 100)) c.put_first-then-number-lt10000.ensures.items ∙ append_assoc old (decimal (n / 100)) (pair (n % 100))
    ∙ ap (λ (l : List ℕ). old ++ l) (sym (decimal_pair n (omega (arith, c.if-number-lt100.false)) (omega (arith, c.if-number-lt10000.true))))

pub returns-else-number-lt10000-clause-items : goal.returns-else-number-lt10000-clause-items
returns-else-number-lt10000-clause-items c =
    let n = c.args.number in
    let old = c.args.text.now.items in
    let last : n % 10000 % 100 ≡ n % 100 = omega arith in
    c.put_pair-else-number-lt10000-2.ensures.items ∙ ap (λ (l : List ℕ). l ++ pair (n % 100)) (c.put_pair-else-number-lt10000.ensures.items ∙ ap (λ (l : List ℕ). l ++ pair (n % 10000 / 100)) c.put_first-else-number-lt10000.ensures.items)
    ∙ append_assoc (old ++ decimal (n / 10000)) (pair (n % 10000 / 100)) (pair (n % 100)) ∙ append_assoc old (decimal (n / 10000)) (pair (n % 10000 / 100) ++ pair (n % 100))
    ∙ ap (λ (p : ℕ). old ++ (decimal (n / 10000) ++ (pair (n % 10000 / 100) ++ pair p))) (sym last)
    ∙ ap (λ (l : List ℕ). old ++ l) (sym (decimal_four n (omega (arith, c.if-number-lt10000.false)) (omega (arith, c.requires.small))))
