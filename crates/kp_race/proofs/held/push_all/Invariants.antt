use Rattle.std.proofs.Common.{◌≡◌, ◌++◌, map, take}
use Rattle.kp_model.specs.Log.{logged}
use Rattle.kp_race.specs.Agreement.{committed_as}
use Rattle.kp_race.proofs.held.push_all.Given as goal

abbrev pub invariant-loop-batch : goal.invariant-loop-batch
invariant-loop-batch l = l.list.items ≡ l.initial.list.items ++ map committed_as (map logged (take l.batch-index l.batches.items))
