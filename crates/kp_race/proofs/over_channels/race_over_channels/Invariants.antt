use Rattle.kp_race.proofs.over_channels.race_over_channels.Given as goal

abbrev pub ghosts-race_named : goal.ghosts-race_named
ghosts-race_named g a = record { table = a.opened }
