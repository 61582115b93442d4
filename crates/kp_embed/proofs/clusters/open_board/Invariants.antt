use Rattle.kp_embed.proofs.clusters.open_board.Given as goal

abbrev pub ghosts-open-B-BoardName : goal.ghosts-open-B-BoardName
ghosts-open-B-BoardName a = record { table = a.opened }
