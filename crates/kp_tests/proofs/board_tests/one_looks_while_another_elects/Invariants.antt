use Rattle.kp_tests.proofs.board_tests.one_looks_while_another_elects.Given as goal

abbrev pub ghosts-look_and_elect : goal.ghosts-look_and_elect
ghosts-look_and_elect g a = record { table = a.opened }
