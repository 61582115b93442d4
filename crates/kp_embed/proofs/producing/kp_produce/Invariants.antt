use Rattle.kp_handles.specs.Called.{table_of}
use Rattle.kp_embed.proofs.producing.kp_produce.Given as goal

abbrev pub ghosts-produce-B-BoardName : goal.ghosts-produce-B-BoardName
ghosts-produce-B-BoardName a = record { table = table_of a.node.now.object a.node.now.table a.caller.now.table }
