-- How a run ended, as views of runs show it.
use Rattle.kinds.specs.declared.store.RunStatus.{RunStatus}
use Rattle.kinds.specs.declared.store.RunStatus.TheVariants as status
use Rattle.run_state.specs.declared.ended.Ended.{Ended}
use Rattle.run_state.specs.declared.ended.Ended.TheVariants.{Completed, Failed, Cancelled}

abbrev pub status_of : Ended → RunStatus
status_of Completed = status.Completed
status_of Failed = status.Failed
status_of Cancelled = status.Cancelled
