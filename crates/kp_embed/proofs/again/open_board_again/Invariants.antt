use Rattle.kp_embed.proofs.again.open_board_again.Given as goal

abbrev pub ghosts-take_left-B-BoardName : goal.ghosts-take_left-B-BoardName
ghosts-take_left-B-BoardName a = record { table = a.handle.now.table }

abbrev pub ghosts-open_left-B-BoardName : goal.ghosts-open_left-B-BoardName
ghosts-open_left-B-BoardName a = record { table = a.opened }
