use Rattle.kp_handles.specs.Called.{table_of}
use Rattle.kp_embed.proofs.telling.kp_offset_for_time.Given as goal

abbrev pub ghosts-with_pair-B-BoardName : goal.ghosts-with_pair-B-BoardName
ghosts-with_pair-B-BoardName a = record { table = table_of a.node.now.object a.node.now.table a.caller.now.table }
