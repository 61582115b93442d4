use Rattle.kp_tests.proofs.cluster_tests.all_nodes_agree.Given as goal

abbrev pub ghosts-raced : goal.ghosts-raced
ghosts-raced g a = record { table = a.opened }
