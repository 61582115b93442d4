use Rattle.kp_visible.proofs.Consumers.{committed_visible, visible_rises}
use Rattle.kp_visible.proofs.Growing.{visible_stays}
use Rattle.kp_visible.proofs.committed_records_are_visible.Goals as goal

pub returns-clause-visible : goal.returns-clause-visible
returns-clause-visible c = committed_visible

pub returns-clause-rising : goal.returns-clause-rising
returns-clause-rising c = visible_rises

pub returns-clause-staying : goal.returns-clause-staying
returns-clause-staying c = visible_stays
