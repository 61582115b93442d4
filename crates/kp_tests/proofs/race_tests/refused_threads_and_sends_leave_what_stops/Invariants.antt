use Rattle.kp_tests.proofs.race_tests.refused_threads_and_sends_leave_what_stops.Given as goal

abbrev pub ghosts-stopped_after : goal.ghosts-stopped_after
ghosts-stopped_after g a = record { table = a.opened }
