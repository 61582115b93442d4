use Rattle.opened_again.proofs.again.Given as goal

abbrev pub ghosts-open_again : goal.ghosts-open_again
ghosts-open_again g a = record { list = a._said.now.seen }

abbrev pub ghosts-second : goal.ghosts-second
ghosts-second g a = record { table = a.opened }
