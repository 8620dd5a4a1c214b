use Rattle.std.proofs.Common.{Ok, Err, arith, ◌+◌, ◌-◌, ◌*◌}
use Rattle.std.proofs.lemmas.Result.{err_from_is_err_and}
use Rattle.replay_core.proofs.HashingLemmas.{no-replies, one-reply, replies-fault}
use Rattle.replay_core.proofs.generated.Hashing.take_replies.Goals as goal

pub loop-reply-init : goal.loop-reply-init
loop-reply-init c = no-replies c.args.n c.args.self

pub returns-in_err-hashing : goal.returns-in_err-hashing
returns-in_err-hashing c =
    let p = err_from_is_err_and c.from_residual.result c.from_residual.ensures.1 in
    let i = c.loop-reply._reply in
    let e = c.in_err-hashing.field-0.0 in
    let more = one-reply c.args.n i c.args.self c.loop-reply.hashing (Err e) c.loop-reply.invariant c.in_err-hashing.ensures in
    rw (p.1, p.2) (replies-fault (2 * c.args.n - (i + 1)) c.args.n (i + 1) (2 * c.args.n) c.args.self e (omega (arith, c.loop-reply-test.true, c.from-reply-end.ensures)) more)

pub loop-reply-preserved : goal.loop-reply-preserved
loop-reply-preserved c =
    one-reply c.args.n c.loop-reply._reply c.args.self c.loop-reply.hashing (Ok c.in_ok-hashing.hashing) c.loop-reply.invariant c.in_ok-hashing.ensures
