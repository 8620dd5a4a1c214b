use Rattle.matching_tests.proofs.waiting.buckets_hide_nothing_that_is_met.Given as goal

abbrev pub ghosts-meets : goal.ghosts-meets
ghosts-meets g a = record { name = a.blank.name; parts = a.blank.parts }
