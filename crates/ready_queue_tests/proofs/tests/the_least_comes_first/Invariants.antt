use Rattle.ready_queue_tests.proofs.tests.the_least_comes_first.Given as goal

abbrev pub ghosts-first : goal.ghosts-first
ghosts-first g a = record { name = a.blank.name; parts = a.blank.parts }
