use Rattle.kp_tests.proofs.transport_tests.messages_fare_as_they_are_chosen.Given as goal

abbrev pub ghosts-comes : goal.ghosts-comes
ghosts-comes g a = record { table = a.opened }
