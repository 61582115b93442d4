use Rattle.std.proofs.Common.{Some, length}
use Rattle.kp_handles.specs.Holding.{WritesSpelling, batch_size, batches_in}
use Rattle.kp_handles.proofs.Parts.{not_there, too_long, written}
use Rattle.kp_handles.proofs.holding.WriteBatchWrittenOf.write.Goals as goal

pub returns-in-Ok-clause-written : goal.returns-in-Ok-clause-written
returns-in-Ok-clause-written g c =
    written batches_in c.args.self.index (Some c.args.object.now) c.in-Ok.batch.now c.in-Ok.ensures.found (λ w. WritesSpelling w c.args.to.now c.copy_batch.new.to) c.copy_batch.result
    c.copy_batch.ensures.written

pub returns-in-Ok-clause-only : goal.returns-in-Ok-clause-only
returns-in-Ok-clause-only g c =
    too_long batches_in c.args.self.index (Some c.args.object.now) c.in-Ok.batch.now c.in-Ok.ensures.found batch_size (length c.args.to.now) c.copy_batch.result c.copy_batch.ensures.only

pub returns-in-Err-clause-only : goal.returns-in-Err-clause-only
returns-in-Err-clause-only g c = not_there batches_in c.args.self.index batch_size (length c.args.to.now) (Some c.args.object.now) c.in-Err.misuse c.in-Err.ensures.only
