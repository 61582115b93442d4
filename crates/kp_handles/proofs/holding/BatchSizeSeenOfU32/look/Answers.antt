use Rattle.std.proofs.Common.{rules, ◌≡◌, Some}
use Rattle.kp_handles.specs.Holding.{batch_size, batches_in}
use Rattle.kp_handles.proofs.Parts.{part_as}
use Rattle.kp_handles.proofs.holding.BatchSizeSeenOfU32.look.Goals as goal

pub returns-in-Ok-clause-found : goal.returns-in-Ok-clause-found
returns-in-Ok-clause-found g c =
    part_as batches_in c.args.self.index (Some c.args.object.now) c.in-Ok.batch.now c.in-Ok.ensures.found (λ w. c.size.result ≡ batch_size w) (search rules)
