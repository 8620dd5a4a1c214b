use Rattle.std.proofs.Common.{subst}
use Rattle.ready_queue.specs.Places.{Indexed, ParksNone}
use Rattle.ready_queue.proofs.IndexLemmas.{indexed_placed, parks_again, placed_again}
use Rattle.ready_queue.proofs.index.Index.unpark.Goals as goal

pub invariant_of-self-2 : goal.invariant_of-self-2
invariant_of-self-2 c = indexed_placed c.args.group (c.in-Some.score, c.in-Some.number) _ _ _ c.self.invariant c.in-Some.ensures c.in_ok-put.ensures.puts

pub returns-clause-parked : goal.returns-clause-parked
returns-clause-parked c =
    subst (λ (i : Indexed). ParksNone i (record { keys = c.self.inside.keys.keys; places = c.put.new.self })) c.self.view_is
    (parks_again c.args.group _ _ _ _ c.in_ok-put.ensures.puts)

pub returns-clause-ok : goal.returns-clause-ok
returns-clause-ok c = placed_again c.args.group _ _ _ _ c.in_ok-put.ensures.puts
