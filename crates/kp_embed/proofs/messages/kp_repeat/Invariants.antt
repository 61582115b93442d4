use Rattle.kp_handles.specs.Called.{table_of}
use Rattle.kp_embed.proofs.messages.kp_repeat.Given as goal

abbrev pub ghosts-repeat-B-BoardName : goal.ghosts-repeat-B-BoardName
ghosts-repeat-B-BoardName a = record { table = table_of a.caller.now.object a.caller.now.table a.letter.now.table }
