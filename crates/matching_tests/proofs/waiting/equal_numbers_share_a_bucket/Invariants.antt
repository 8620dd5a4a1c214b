use Rattle.matching_tests.proofs.waiting.equal_numbers_share_a_bucket.Given as goal

abbrev pub ghosts-meets : goal.ghosts-meets
ghosts-meets g a = record { name = a.blank.name; parts = a.blank.parts }
