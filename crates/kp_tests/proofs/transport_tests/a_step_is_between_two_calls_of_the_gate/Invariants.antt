use Rattle.kp_tests.proofs.transport_tests.a_step_is_between_two_calls_of_the_gate.Given as goal

abbrev pub ghosts-steps : goal.ghosts-steps
ghosts-steps g a = record { table = a.opened }
