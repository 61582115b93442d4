use Rattle.kp_embed.proofs.holding.kp_value.Given as goal

abbrev pub ghosts-look_into-B-BoardName : goal.ghosts-look_into-B-BoardName
ghosts-look_into-B-BoardName a = record { table = a.handle.now.table }
