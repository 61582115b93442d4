use Rattle.kp_tests.proofs.node_meeting_tests.receipts_go_to_another_caller.Given as goal

abbrev pub ghosts-told_of_another : goal.ghosts-told_of_another
ghosts-told_of_another g a = record { table = a.opened }
