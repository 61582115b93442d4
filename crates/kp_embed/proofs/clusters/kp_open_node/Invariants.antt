use Rattle.kp_embed.proofs.clusters.kp_open_node.Given as goal

abbrev pub ghosts-open_node-B-BoardName : goal.ghosts-open_node-B-BoardName
ghosts-open_node-B-BoardName a = record { table = a.cluster.now.table }
