use Rattle.std.proofs.Common.{◌≤◌, sym, subst, ◌∙◌}
use Rattle.kp_model.specs.World.{LeaderAndIsr}
use Rattle.kp_control.specs.Word.{packed}
use Rattle.kp_board.specs.Rule.{ShowsLastRecord}
use Rattle.kp_board.proofs.board.Board.found.Goals as goal

pub record_of_word-requires : goal.record_of_word-requires
record_of_word-requires g c = let l = c.look-word.ensures in (l.0, l.1.is)

pub returns-clause-shown : goal.returns-clause-shown
returns-clause-shown g c =
    let l = c.look-word.ensures in
    let same = c.record_of_word.ensures l.0 l.1.is in
    l.2 ∙ (λ i. record c.args.pass.now { shown = sym same i })

pub returns-clause-later : goal.returns-clause-later
returns-clause-later g c =
    let l = c.look-word.ensures in
    let same = c.record_of_word.ensures l.0 l.1.is in
    subst (λ (s : LeaderAndIsr). c.args.pass.now.shown.version ≤ s.version) (sym same) l.1.later

pub returns-clause-of_run : goal.returns-clause-of_run
returns-clause-of_run g c = let l = c.look-word.ensures in subst ShowsLastRecord (sym l.2) l.3

pub returns-clause-word : goal.returns-clause-word
returns-clause-word g c =
    let l = c.look-word.ensures in
    let same = c.record_of_word.ensures l.0 l.1.is in
    sym l.1.is.word_is ∙ (λ i. packed (sym same i))
