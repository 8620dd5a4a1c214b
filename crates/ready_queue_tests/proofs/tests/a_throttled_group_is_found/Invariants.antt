use Rattle.ready_queue_tests.proofs.tests.a_throttled_group_is_found.Given as goal

abbrev pub ghosts-let_start : goal.ghosts-let_start
ghosts-let_start g a = record { name = a.blank.name; parts = a.blank.parts }
