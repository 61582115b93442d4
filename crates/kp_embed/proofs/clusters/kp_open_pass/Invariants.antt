use Rattle.kp_embed.proofs.clusters.kp_open_pass.Given as goal

abbrev pub ghosts-open_caller-B-BoardName : goal.ghosts-open_caller-B-BoardName
ghosts-open_caller-B-BoardName a = record { table = a.cluster.now.table }
