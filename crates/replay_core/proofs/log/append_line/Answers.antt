use Rattle.replay_core.proofs.LogLemmas.{append-failed, appended-logs}
use Rattle.replay_core.proofs.log.append_line.Goals as goal

pub returns-in-Ok-clause-log : goal.returns-in-Ok-clause-log
returns-in-Ok-clause-log c =
    appended-logs c.args.rig.now c.append.new.rig c.args.journal c.in-Ok.journal c.args.line.now c.requires.logging
    c.in-Ok.ensures.steady c.in-Ok.ensures.tells c.in-Ok.ensures.told c.in-Ok.ensures.ready

pub returns-in-Err-clause-failed : goal.returns-in-Err-clause-failed
returns-in-Err-clause-failed c = append-failed c.args.rig.now c.append.new.rig c.args.journal c.args.line.now _ c.requires.logging c.in-Err.ensures.tells c.in-Err.ensures.told
