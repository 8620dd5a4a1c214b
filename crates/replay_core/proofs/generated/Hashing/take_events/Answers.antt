use Rattle.std.proofs.Common.{Ok, Err, arith, ◌+◌, ◌-◌}
use Rattle.std.proofs.lemmas.Result.{err_from_is_err_and}
use Rattle.replay_core.proofs.HashingLemmas.{events-fault, no-events, one-event}
use Rattle.replay_core.proofs.generated.Hashing.take_events.Goals as goal

pub loop-before-init : goal.loop-before-init
loop-before-init c = no-events c.args.n _ c.args.self c.from_seed-drawn.ensures

pub returns-in_err-hashing : goal.returns-in_err-hashing
returns-in_err-hashing c =
    let p = err_from_is_err_and c.from_residual.result c.from_residual.ensures.1 in
    let i = c.loop-before.before in
    let e = c.in_err-hashing.field-0.0 in
    let more = one-event c.args.n i _ _ _ c.args.self c.loop-before.hashing (Err e) c.loop-before.invariant.1 c.draw.ensures c.user.ensures c.loop-before.invariant.0 c.in_err-hashing.ensures in
    rw (p.1, p.2) (events-fault (c.args.n - (i + 1)) c.args.n (i + 1) c.args.n c.args.self e (omega (arith, c.loop-before-test.true)) more.0)

pub loop-before-preserved : goal.loop-before-preserved
loop-before-preserved c =
    one-event c.args.n c.loop-before.before _ _ _ c.args.self c.loop-before.hashing (Ok c.in_ok-hashing.hashing) c.loop-before.invariant.1 c.draw.ensures c.user.ensures c.loop-before.invariant.0 c.in_ok-hashing.ensures
