use Rattle.kp_handles.specs.Called.{table_of}
use Rattle.kp_embed.proofs.reading.kp_fetch.Given as goal

abbrev pub ghosts-give_by_pair-B-BoardName : goal.ghosts-give_by_pair-B-BoardName
ghosts-give_by_pair-B-BoardName a = record { table = table_of a.node.now.object a.node.now.table a.caller.now.table }
