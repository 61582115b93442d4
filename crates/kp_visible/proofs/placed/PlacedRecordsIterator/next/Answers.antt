use Rattle.std.proofs.Common.{rules}
use Rattle.kp_visible.proofs.placed.PlacedRecordsIterator.next.Goals as goal

pub returns-clause-steps : goal.returns-clause-steps
returns-clause-steps c = search rules
