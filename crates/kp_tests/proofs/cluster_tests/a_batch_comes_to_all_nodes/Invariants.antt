use Rattle.kp_tests.proofs.cluster_tests.a_batch_comes_to_all_nodes.Given as goal

abbrev pub ghosts-read_back : goal.ghosts-read_back
ghosts-read_back g a = record { table = a.opened }
