use Rattle.kp_embed.proofs.clusters.kp_close.Given as goal

abbrev pub ghosts-close-B-BoardName : goal.ghosts-close-B-BoardName
ghosts-close-B-BoardName a = record { table = a.handle.now.table }
