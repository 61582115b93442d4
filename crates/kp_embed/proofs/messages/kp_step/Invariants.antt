use Rattle.kp_handles.specs.Called.{table_of}
use Rattle.kp_embed.proofs.messages.kp_step.Given as goal

abbrev pub ghosts-step-B-BoardName : goal.ghosts-step-B-BoardName
ghosts-step-B-BoardName a = record { table = table_of a.node.now.object a.node.now.table a.letter.now.table }
