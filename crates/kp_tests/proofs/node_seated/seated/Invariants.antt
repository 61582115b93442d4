use Rattle.kp_tests.proofs.node_seated.seated.Given as goal

abbrev pub ghosts-answers : goal.ghosts-answers
ghosts-answers a = record { table = a.opened }
