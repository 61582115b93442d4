use Rattle.std.proofs.Common.{◌∙◌}
use Rattle.kp_visible.specs.Filter.{shows}
use Rattle.kp_visible.proofs.Stretches.{begun_by}
use Rattle.kp_visible.proofs.looked.Looked.look_few.Goals as goal

pub returns-in_err-push-clause-begun : goal.returns-in_err-push-clause-begun
returns-in_err-push-clause-begun c =
    begun_by (shows c.args.aborted.now) c.args.self.now c.push.new.self c.args.batches.now c.loop-batch.batch-index (c.in_err-push.ensures.err ∙ c.loop-batch.invariant)
