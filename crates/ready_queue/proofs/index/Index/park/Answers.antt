use Rattle.std.proofs.Common.{subst}
use Rattle.ready_queue.specs.Places.{Indexed, ParksOne}
use Rattle.ready_queue.proofs.IndexLemmas.{indexed_parked, parks_one}
use Rattle.ready_queue.proofs.index.Index.park.Goals as goal

pub invariant_of-self : goal.invariant_of-self
invariant_of-self c = indexed_parked c.args.group _ _ _ c.self.invariant c.discard.ensures.puts

pub returns-clause-parked : goal.returns-clause-parked
returns-clause-parked c =
    subst (λ (i : Indexed). ParksOne c.args.group i (record { keys = c.self.inside.keys.keys; places = c.discard.new.self })) c.self.view_is
    (parks_one c.args.group _ _ _ c.discard.ensures.puts)
