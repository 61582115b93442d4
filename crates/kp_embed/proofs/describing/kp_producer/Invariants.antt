use Rattle.kp_embed.proofs.describing.kp_producer.Given as goal

abbrev pub ghosts-with_node-B-BoardName : goal.ghosts-with_node-B-BoardName
ghosts-with_node-B-BoardName a = record { table = a.handle.now.table }
