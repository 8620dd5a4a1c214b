-- What is looked up of a run that ends.
use Rattle.kinds.specs.declared.store.RunStatus.{RunStatus}
use Rattle.run_model.specs.Ends.{ended_run}
use Rattle.run_model.specs.State.{State, Run}
use Rattle.machine.specs.declared.ends.Ending.{Ending}

abbrev pub ending_of : RunStatus → State → Run → Ending
ending_of status s r = record { parent = r.parent; version = r.version; ended = ended_run r status s }
