use Rattle.kp_visible.proofs.Consumers.{aborted_hidden}
use Rattle.kp_visible.proofs.Growing.{aborted_was_hidden}
use Rattle.kp_visible.proofs.aborted_records_are_hidden.Goals as goal

pub returns-clause-marked : goal.returns-clause-marked
returns-clause-marked c = aborted_hidden

pub returns-clause-unmarked : goal.returns-clause-unmarked
returns-clause-unmarked c = aborted_was_hidden
