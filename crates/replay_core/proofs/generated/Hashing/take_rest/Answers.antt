use Rattle.std.proofs.Common.{◌*◌}
use Rattle.replay_core.specs.Generator.{on_events, on_replies}
use Rattle.replay_core.proofs.HashingLemmas.{hashes-then}
use Rattle.replay_core.proofs.generated.Hashing.take_rest.Goals as goal

pub returns : goal.returns
returns c =
    let n = c.args.n in
    hashes-then (on_events n n c.args.self.progress) (on_replies n (2 * n)) c.args.self c.in_ok-take_events.field-0 _
    c.in_ok-take_events.ensures c.take_replies.ensures
