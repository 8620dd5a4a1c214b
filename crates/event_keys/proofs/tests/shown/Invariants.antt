use Rattle.event_keys.proofs.tests.shown.Given as goal

abbrev pub ghosts-both : goal.ghosts-both
ghosts-both a = record { name = a.blank.name; parts = a.blank.parts }

abbrev pub ghosts-matched : goal.ghosts-matched
ghosts-matched a = record { name = a.blank.name; parts = a.blank.parts }
