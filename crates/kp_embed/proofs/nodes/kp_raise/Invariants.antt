use Rattle.kp_embed.proofs.nodes.kp_raise.Given as goal

abbrev pub ghosts-with_node-B-BoardName : goal.ghosts-with_node-B-BoardName
ghosts-with_node-B-BoardName a = record { table = a.handle.now.table }
