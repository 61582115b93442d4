use Rattle.kp_embed.proofs.callers.kp_leadership.Given as goal

abbrev pub ghosts-with_pass-B-BoardName : goal.ghosts-with_pass-B-BoardName
ghosts-with_pass-B-BoardName a = record { table = a.handle.now.table }
