use Rattle.kp_embed.proofs.again.kp_decided.Given as goal

abbrev pub ghosts-next_decided-B-BoardName : goal.ghosts-next_decided-B-BoardName
ghosts-next_decided-B-BoardName a = record { table = a.letter.now.table }
