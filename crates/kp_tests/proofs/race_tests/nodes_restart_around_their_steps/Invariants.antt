use Rattle.kp_tests.proofs.race_tests.nodes_restart_around_their_steps.Given as goal

abbrev pub ghosts-raced_restarting : goal.ghosts-raced_restarting
ghosts-raced_restarting g a = record { table = a.opened }
