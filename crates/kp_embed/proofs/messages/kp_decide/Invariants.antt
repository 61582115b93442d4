use Rattle.kp_handles.specs.Called.{table_of}
use Rattle.kp_embed.proofs.messages.kp_decide.Given as goal

abbrev pub ghosts-decide-B-BoardName : goal.ghosts-decide-B-BoardName
ghosts-decide-B-BoardName a = record { table = table_of a.caller.now.object a.caller.now.table a.letter.now.table }
