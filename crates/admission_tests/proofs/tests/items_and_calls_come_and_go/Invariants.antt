use Rattle.admission_tests.proofs.tests.items_and_calls_come_and_go.Given as goal

abbrev pub ghosts-walk_and_look : goal.ghosts-walk_and_look
ghosts-walk_and_look g a = record { name = a.blank.name; parts = a.blank.parts }
