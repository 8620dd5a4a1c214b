use Rattle.machine_tests.proofs.tests.with_run.Given as goal

abbrev pub ghosts-taken : goal.ghosts-taken
ghosts-taken a = record { name = a.blank.name; parts = a.blank.parts }
