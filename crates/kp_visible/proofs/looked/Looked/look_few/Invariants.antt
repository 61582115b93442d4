use Rattle.std.proofs.Common.{◌≡◌, ◌++◌, map, take}
use Rattle.kp_model.specs.Log.{logged}
use Rattle.kp_visible.specs.Filter.{shows}
use Rattle.kp_visible.proofs.looked.Looked.look_few.Given as goal

abbrev pub invariant-loop-batch : goal.invariant-loop-batch
invariant-loop-batch l = l.self ≡ l.fn.self ++ map (shows l.aborted) (map logged (take l.batch-index l.batches))
