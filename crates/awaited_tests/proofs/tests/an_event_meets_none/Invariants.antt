use Rattle.awaited_tests.proofs.tests.an_event_meets_none.Given as goal

abbrev pub ghosts-met_by_none : goal.ghosts-met_by_none
ghosts-met_by_none g a = record { name = a.blank.name; parts = a.blank.parts }
