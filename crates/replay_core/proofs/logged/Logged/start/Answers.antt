use Rattle.std.proofs.lemmas.Result.{err_from_is_err_and}
use Rattle.replay_core.proofs.LogLemmas.{blank-stands}
use Rattle.replay_core.proofs.logged.Logged.start.Goals as goal

pub returns-in_err-progress-clause-failed : goal.returns-in_err-progress-clause-failed
returns-in_err-progress-clause-failed c =
    let p = err_from_is_err_and c.from_residual.result c.from_residual.ensures.1 in
    rw p.1 (blank-stands c.args.rig.now c.requires)
