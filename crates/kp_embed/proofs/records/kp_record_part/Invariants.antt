use Rattle.kp_embed.proofs.records.kp_record_part.Given as goal

abbrev pub ghosts-look-B-BoardName : goal.ghosts-look-B-BoardName
ghosts-look-B-BoardName a = record { table = a.handle.now.table }
