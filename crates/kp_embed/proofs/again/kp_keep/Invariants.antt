use Rattle.kp_embed.proofs.again.kp_keep.Given as goal

abbrev pub ghosts-keep-B-BoardName : goal.ghosts-keep-B-BoardName
ghosts-keep-B-BoardName a = record { table = a.handle.now.table }
