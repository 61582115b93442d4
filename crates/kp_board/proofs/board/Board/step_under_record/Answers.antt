use Rattle.std.proofs.Common.{◌≤◌, sym, subst, ◌∙◌}
use Rattle.kp_model.specs.World.{LeaderAndIsr}
use Rattle.kp_board.proofs.board.Board.step_under_record.Goals as goal

pub record_of_word-requires : goal.record_of_word-requires
record_of_word-requires g c = let l = c.load_under_record-word.ensures in (l.0, l.1.is)

pub returns-clause-shown : goal.returns-clause-shown
returns-clause-shown g c =
    let l = c.load_under_record-word.ensures in
    let same = c.record_of_word.ensures l.0 l.1.is in
    l.2 ∙ (λ i. record c.args.pass.now { state = g.E.StepUnderRecord.next (sym same i); shown = sym same i })

pub returns-clause-later : goal.returns-clause-later
returns-clause-later g c =
    let l = c.load_under_record-word.ensures in
    let same = c.record_of_word.ensures l.0 l.1.is in
    subst (λ (s : LeaderAndIsr). c.args.pass.now.shown.version ≤ s.version) (sym same) l.1.later

pub returns-clause-known : goal.returns-clause-known
returns-clause-known g c =
    let l = c.load_under_record-word.ensures in
    let same = c.record_of_word.ensures l.0 l.1.is in
    subst g.E.StepUnderRecord.knows (sym same) l.3
