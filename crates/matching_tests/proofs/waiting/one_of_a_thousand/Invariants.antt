use Rattle.matching_tests.proofs.waiting.one_of_a_thousand.Given as goal

abbrev pub ghosts-meets : goal.ghosts-meets
ghosts-meets g a = record { name = a.blank.name; parts = a.blank.parts }
