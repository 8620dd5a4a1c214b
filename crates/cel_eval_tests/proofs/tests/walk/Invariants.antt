use Rattle.cel_eval_tests.proofs.tests.walk.Given as goal

abbrev pub ghosts-shown : goal.ghosts-shown
ghosts-shown g a = record { name = a.blank.name; parts = a.blank.parts }
