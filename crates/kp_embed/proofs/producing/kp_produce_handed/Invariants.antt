use Rattle.kp_handles.specs.Called.{table_of}
use Rattle.kp_embed.proofs.producing.kp_produce_handed.Given as goal

abbrev pub ghosts-produce_handed-B-BoardName : goal.ghosts-produce_handed-B-BoardName
ghosts-produce_handed-B-BoardName a = record { table = table_of a.node.now.object a.node.now.table a.caller.now.table }

abbrev pub ghosts-produce_handed-C-BoardName : goal.ghosts-produce_handed-C-BoardName
ghosts-produce_handed-C-BoardName a = record { table = a.held.now.table }
