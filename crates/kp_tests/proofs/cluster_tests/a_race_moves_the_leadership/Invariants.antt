use Rattle.kp_tests.proofs.cluster_tests.a_race_moves_the_leadership.Given as goal

abbrev pub ghosts-record_after : goal.ghosts-record_after
ghosts-record_after g a = record { table = a.opened }
