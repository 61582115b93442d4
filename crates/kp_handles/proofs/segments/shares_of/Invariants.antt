use Rattle.std.proofs.Common.{◌≡◌, ◌++◌}
use Rattle.kp_segment.specs.Runs.{runs_left}
use Rattle.kp_handles.proofs.segments.shares_of.Given as goal

abbrev pub invariant-loop-name : goal.invariant-loop-name
invariant-loop-name l = l.shares.items ++ runs_left l.name-iterator ≡ runs_left l.initial.name-iterator
