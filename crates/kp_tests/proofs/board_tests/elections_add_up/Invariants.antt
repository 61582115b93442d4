use Rattle.kp_tests.proofs.board_tests.elections_add_up.Given as goal

abbrev pub ghosts-elect_by_two : goal.ghosts-elect_by_two
ghosts-elect_by_two g a = record { table = a.opened }
