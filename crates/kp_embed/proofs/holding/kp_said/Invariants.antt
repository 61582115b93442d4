use Rattle.kp_embed.proofs.holding.kp_said.Given as goal

abbrev pub ghosts-said-B-BoardName : goal.ghosts-said-B-BoardName
ghosts-said-B-BoardName a = record { table = a.handle.now.table }
