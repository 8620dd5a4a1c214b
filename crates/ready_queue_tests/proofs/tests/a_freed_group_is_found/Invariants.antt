use Rattle.ready_queue_tests.proofs.tests.a_freed_group_is_found.Given as goal

abbrev pub ghosts-freed : goal.ghosts-freed
ghosts-freed g a = record { name = a.blank.name; parts = a.blank.parts }
