use Rattle.ready_queue_tests.proofs.tests.a_group_is_asked_for_once.Given as goal

abbrev pub ghosts-least_of_closed : goal.ghosts-least_of_closed
ghosts-least_of_closed g a = record { name = a.blank.name; parts = a.blank.parts }
