use Rattle.kp_tests.proofs.cluster_tests.gate_two_nodes.Given as goal

abbrev pub ghosts-one_after_two : goal.ghosts-one_after_two
ghosts-one_after_two g a = record { table = a.opened }
