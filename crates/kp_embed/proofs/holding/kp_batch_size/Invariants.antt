use Rattle.kp_embed.proofs.holding.kp_batch_size.Given as goal

abbrev pub ghosts-look-B-BoardName : goal.ghosts-look-B-BoardName
ghosts-look-B-BoardName a = record { table = a.handle.now.table }
