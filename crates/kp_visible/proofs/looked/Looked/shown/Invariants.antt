use Rattle.std.proofs.Common.{◌≡◌, ◌+◌, ◌++◌, drop, map}
use Rattle.kp_model.specs.Log.{logged}
use Rattle.kp_model.specs.Reading.{lines_from}
use Rattle.kp_model.specs.Visible.{records_in}
use Rattle.kp_visible.specs.Looked.{chosen, last_stretch}
use Rattle.kp_visible.proofs.Stretches.{lines_left}
use Rattle.kp_visible.proofs.looked.Looked.shown.Given as goal

-- what is added, and what is still to come, are all
abbrev pub invariant-loop-stretch : goal.invariant-loop-stretch
invariant-loop-stretch l =
    l.lines ++ lines_left l.from l.place (drop (l.passed + l.stretch-index) l.self-inside.stretches.items ++ last_stretch l.self-inside.last l.self-inside.count) l.self-inside.count l.batches
    ≡ lines_from l.from (records_in (chosen (drop l.fn.place l.fn.self) (drop l.fn.place (map logged l.batches))))
