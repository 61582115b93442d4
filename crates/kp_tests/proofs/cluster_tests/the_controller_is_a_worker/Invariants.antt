use Rattle.kp_tests.proofs.cluster_tests.the_controller_is_a_worker.Given as goal

abbrev pub ghosts-is_recorded : goal.ghosts-is_recorded
ghosts-is_recorded g a = record { table = a.opened }
