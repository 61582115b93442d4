use Rattle.opened_again.proofs.main.Given as goal

abbrev pub ghosts-first : goal.ghosts-first
ghosts-first a = record { table = a.opened }
