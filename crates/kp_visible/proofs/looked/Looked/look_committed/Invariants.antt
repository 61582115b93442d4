use Rattle.std.proofs.Common.{◌≡◌, ◌++◌, map, take}
use Rattle.kp_model.specs.Log.{logged}
use Rattle.kp_visible.specs.Filter.{shows}
use Rattle.kp_visible.proofs.looked.Looked.look_committed.Given as goal

abbrev pub invariant-loop-batch : goal.invariant-loop-batch
invariant-loop-batch l = record {
  list : l.searched.index.aborted.now ≡ l.initial.searched.index.aborted.now;
  looked : l.self ≡ l.fn.self ++ map (shows l.initial.searched.index.aborted.now) (map logged (take l.batch-index l.batches));
}
