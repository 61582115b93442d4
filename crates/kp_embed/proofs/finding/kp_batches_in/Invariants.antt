use Rattle.kp_embed.proofs.finding.kp_batches_in.Given as goal

abbrev pub ghosts-find_batches-B-BoardName : goal.ghosts-find_batches-B-BoardName
ghosts-find_batches-B-BoardName a = record { table = a.handle.now.table }
