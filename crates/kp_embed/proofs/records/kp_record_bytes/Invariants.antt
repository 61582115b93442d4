use Rattle.kp_embed.proofs.records.kp_record_bytes.Given as goal

abbrev pub ghosts-look_into-B-BoardName : goal.ghosts-look_into-B-BoardName
ghosts-look_into-B-BoardName a = record { table = a.handle.now.table }
