use Rattle.replay_core.specs.Generator.{on_reply}
use Rattle.replay_core.proofs.HashingLemmas.{input-then}
use Rattle.replay_core.proofs.generated.Hashing.take_event.Goals as goal

pub returns : goal.returns
returns c =
    input-then _ _ (on_reply c.args.index) c.args.self c.in_ok-take.field-0 _ c.in_ok-event.ensures c.in_ok-take.ensures
    c.take_reply.ensures
