use Rattle.replay_core.proofs.LogLemmas.{opened-logs, opening-failed}
use Rattle.replay_core.proofs.log.open_journal.Goals as goal

pub returns-in-Ok-clause-log : goal.returns-in-Ok-clause-log
returns-in-Ok-clause-log c =
    opened-logs c.args.rig.now c.open.new.rig c.in-Ok.journal c.requires
    c.in-Ok.ensures.steady c.in-Ok.ensures.tells c.in-Ok.ensures.told c.in-Ok.ensures.ready

pub returns-in-Err-clause-failed : goal.returns-in-Err-clause-failed
returns-in-Err-clause-failed c = opening-failed c.args.rig.now c.open.new.rig _ c.requires c.in-Err.ensures.tells c.in-Err.ensures.told
