use Rattle.std.proofs.Common.{sym, ap, ◌∙◌}
use Rattle.std.specs.Prelude.{slice_get}
use Rattle.kp_visible.specs.Searched.{IsFirstFrom, stops}
use Rattle.kp_visible.proofs.Passing.{decides_first, stopping_here, stopping_on}
use Rattle.kp_visible.proofs.searched.Searched.search.Goals as goal
use Rattle.kp_visible.proofs.searched.Searched.search.Goals.{After-first_stopping-self}

stopping : (c : After-first_stopping-self) → IsFirstFrom (stops c.args.self.now.offset) c.args.self.now.index.aborted.now c.args.self.now.place c.first_stopping-self.result
stopping c =
    let self = c.args.self.now in
    stopping_on self.index.aborted.now self.offset self.place self.stopping c.max-from.result c.first_stopping-self.result c.max-from.ensures self.passed c.first_stopping-self.ensures

pub returns-then-self-clause-found : goal.returns-then-self-clause-found
returns-then-self-clause-found c =
    let self = c.args.self.now in
    stopping_here self.index.aborted.now c.args.producer self.offset self.place c.first_stopping-self.result
    (stopping (goal.at.returns-then-self-clause-found c).After-first_stopping-self) c.if-self.true

pub returns-clause-found : goal.returns-clause-found
returns-clause-found c =
    let self = c.args.self.now in
    let list = self.index.aborted.now in
    decides_first list c.args.producer self.offset self.place c.first_own-own.result c.first_stopping-self.result c.first_own-own.ensures.first
    (stopping (goal.at.returns-clause-found c).After-first_stopping-self)
    ∙ ap (λ n. slice_get list n) (sym c.min.ensures)
