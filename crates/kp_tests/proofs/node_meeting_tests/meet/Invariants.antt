use Rattle.kp_tests.proofs.node_meeting_tests.meet.Given as goal

abbrev pub ghosts-read_by_two : goal.ghosts-read_by_two
ghosts-read_by_two g a = record { table = a.opened }
