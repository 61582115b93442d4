use Rattle.kp_embed.proofs.messages.kp_alter.Given as goal

abbrev pub ghosts-give_by_node-B-BoardName : goal.ghosts-give_by_node-B-BoardName
ghosts-give_by_node-B-BoardName a = record { table = a.node.now.table }
