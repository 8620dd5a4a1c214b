use Rattle.replay_core.proofs.HashingLemmas.{reply-after}
use Rattle.replay_core.proofs.generated.Hashing.take_reply.Goals as goal

pub returns : goal.returns
returns c =
    reply-after c.args.index c.args.self c.in-Some.open _ _ _ _ c.machine.ensures c.first_call.ensures c.in-Some.is
    c.in_ok-reply.ensures c.take.ensures
