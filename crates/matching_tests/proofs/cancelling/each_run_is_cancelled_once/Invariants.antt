use Rattle.matching_tests.proofs.cancelling.each_run_is_cancelled_once.Given as goal

abbrev pub ghosts-cancelled : goal.ghosts-cancelled
ghosts-cancelled g a = record { name = a.blank.name; parts = a.blank.parts }
