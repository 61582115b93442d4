use Rattle.std.proofs.Common.{◌≡◌, ◌++◌, map, take}
use Rattle.kp_model.specs.Log.{logged}
use Rattle.kp_model.specs.Visible.{is_data}
use Rattle.kp_visible.proofs.looked.Looked.look.Given as goal

abbrev pub invariant-loop-batch : goal.invariant-loop-batch
invariant-loop-batch l = l.self ≡ l.fn.self ++ map is_data (map logged (take l.batch-index l.batches))
