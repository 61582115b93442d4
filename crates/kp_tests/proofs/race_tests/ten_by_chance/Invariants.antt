use Rattle.kp_tests.proofs.race_tests.ten_by_chance.Given as goal

abbrev pub ghosts-raced : goal.ghosts-raced
ghosts-raced g a = record { table = a.opened }
