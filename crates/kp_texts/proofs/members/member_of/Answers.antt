use Rattle.std.proofs.Common.{sym, ◌∙◌, arith}
use Rattle.std.proofs.lemmas.Fmt.{decimal_injective}
use Rattle.kp_texts.proofs.members.member_of.Goals as goal

pub returns-in_default-clause-none : goal.returns-in_default-clause-none
returns-in_default-clause-none c = λ node least below e.
    let found = c.in-Some.ensures.found in
    let same = decimal_injective c.in-Some.node node (omega (arith, found.1)) (omega arith) (sym found.0 ∙ e) in
    omega (arith, same, c.if-node-from.false, c.from.ensures)
