use Rattle.kp_tests.proofs.board_tests.a_board_shows_the_known_word.Given as goal

abbrev pub ghosts-word_after_an_election : goal.ghosts-word_after_an_election
ghosts-word_after_an_election g a = record { table = a.opened }
