use Rattle.kp_embed.proofs.again.kp_recall.Given as goal

abbrev pub ghosts-with_pass-B-BoardName : goal.ghosts-with_pass-B-BoardName
ghosts-with_pass-B-BoardName a = record { table = a.handle.now.table }
