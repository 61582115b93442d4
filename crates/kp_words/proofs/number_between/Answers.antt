use Rattle.std.proofs.Common.{◌∷◌, ◌++◌, sym, ◌∙◌}
use Rattle.std.proofs.lemmas.List.{append_cancel_left}
use Rattle.std.specs.Fmt.{decimal}
use Rattle.kp_words.proofs.Options.{none_weaker}
use Rattle.kp_words.proofs.number_between.Goals as goal

pub returns-in-Some-clause-none : goal.returns-in-Some-clause-none
returns-in-Some-clause-none c =
    none_weaker c.number_before.result _ _
    (λ none n rest below e. none n rest below
    (append_cancel_left c.args.text.now c.in-Some.word.now (decimal n ++ c.args.end ∷ rest) (sym c.in-Some.ensures.found ∙ e)))
    c.number_before.ensures.none
