use Rattle.std.proofs.Common.{sym, ◌∙◌}
use Rattle.kp_words.proofs.Options.{none_weaker}
use Rattle.kp_texts.specs.Texts.{record_lines}
use Rattle.kp_texts.proofs.Seals.{same_lines}
use Rattle.kp_texts.proofs.records.record_of.Goals as goal

pub returns-in-Some-clause-none : goal.returns-in-Some-clause-none
returns-in-Some-clause-none c =
    none_weaker c.record_in.result _ _
    (λ differ kept range e. differ kept range (same_lines c.in-Some.lines.now (record_lines kept) (sym c.in-Some.ensures.found ∙ e)))
    c.record_in.ensures.none
