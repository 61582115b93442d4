use Rattle.kp_visible.proofs.Growing.{visible_below}
use Rattle.kp_visible.proofs.Runs.{hidden_in_runs}
use Rattle.kp_visible.proofs.aborted_records_are_hidden_in_runs.Goals as goal

pub returns-clause-below : goal.returns-clause-below
returns-clause-below c = visible_below

pub returns-clause-runs : goal.returns-clause-runs
returns-clause-runs c = hidden_in_runs c.runs_are_safe.ensures c.runs_keep_logs.ensures c.marks_are_ends.ensures
