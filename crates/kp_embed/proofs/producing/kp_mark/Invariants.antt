use Rattle.kp_handles.specs.Called.{table_of}
use Rattle.kp_embed.proofs.producing.kp_mark.Given as goal

abbrev pub ghosts-mark_in-B-BoardName : goal.ghosts-mark_in-B-BoardName
ghosts-mark_in-B-BoardName a = record { table = table_of a.node.now.object a.node.now.table a.caller.now.table }
