use Rattle.kp_handles.specs.Called.{table_of}
use Rattle.kp_embed.proofs.callers.kp_tell_receipts.Given as goal

abbrev pub ghosts-tell_receipts-B-BoardName : goal.ghosts-tell_receipts-B-BoardName
ghosts-tell_receipts-B-BoardName a = record { table = table_of a.from.now.object a.from.now.table a.to.now.table }
