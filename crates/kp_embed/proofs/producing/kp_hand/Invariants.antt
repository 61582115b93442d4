use Rattle.kp_embed.proofs.producing.kp_hand.Given as goal

abbrev pub ghosts-hand-B-BoardName : goal.ghosts-hand-B-BoardName
ghosts-hand-B-BoardName a = record { table = a.handle.now.table }
