use Rattle.replay_core.specs.Generator.{on_rest}
use Rattle.replay_core.proofs.HashingLemmas.{input-then}
use Rattle.replay_core.proofs.generated.Hashing.take_all.Goals as goal

pub returns : goal.returns
returns c =
    input-then _ _ (on_rest c.args.n) c.args.self c.in_ok-take.field-0 _ c.in_ok-first.ensures c.in_ok-take.ensures
    c.take_rest.ensures
