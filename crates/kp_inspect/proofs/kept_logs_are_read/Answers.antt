use Rattle.kp_inspect.proofs.KeptLogs.{kept_logs}
use Rattle.kp_inspect.proofs.kept_logs_are_read.Goals as goal

pub returns : goal.returns
returns c = kept_logs c.batches_stand_apart.ensures c.bytes_are_judged_once.ensures.once c.batches_are_framed.ensures c.files_are_the_log.ensures
