use Rattle.kp_inspect.proofs.OneDump.{one_dump}
use Rattle.kp_inspect.proofs.dumps_are_one.Goals as goal

pub returns : goal.returns
returns c = one_dump c.batches_stand_apart.ensures c.bytes_are_judged_once.ensures.once c.batches_are_framed.ensures c.segments_are_one.ensures c.tables_are_one.ensures
