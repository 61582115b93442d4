use Rattle.std.proofs.Common.{sym, ◌∙◌}
use Rattle.std.proofs.lemmas.Result.{IfOk-weaker}
use Rattle.kp_words.proofs.Options.{none_weaker}
use Rattle.kp_texts.specs.Texts.{state_lines}
use Rattle.kp_texts.proofs.Seals.{same_lines}
use Rattle.kp_texts.proofs.states.state_of.Goals as goal

pub returns-in-Some-clause-none : goal.returns-in-Some-clause-none
returns-in-Some-clause-none c =
    IfOk-weaker c.state_in.result _ _
    (λ found none. none_weaker found _ _
    (λ differ state range e. differ state range (same_lines c.in-Some.lines.now (state_lines state) (sym c.in-Some.ensures.found ∙ e))) none)
    c.state_in.ensures.none
