use Rattle.kp_embed.proofs.callers.kp_watermark.Given as goal

abbrev pub ghosts-watermark-B-BoardName : goal.ghosts-watermark-B-BoardName
ghosts-watermark-B-BoardName a = record { table = a.handle.now.table }
