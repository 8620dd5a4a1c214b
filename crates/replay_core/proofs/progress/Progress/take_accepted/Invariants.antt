use Rattle.replay_core.proofs.progress.Progress.take_accepted.Given as goal

abbrev pub ghosts-step : goal.ghosts-step
ghosts-step a = record { name = a.blank.name; parts = a.blank.parts }
