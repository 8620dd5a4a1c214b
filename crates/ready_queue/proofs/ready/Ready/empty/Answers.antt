use Rattle.ready_queue.proofs.ReadyLemmas.{none_held, named_empty, none_parked}
use Rattle.ready_queue.proofs.ready.Ready.empty.Goals as goal

pub invariant_of-result : goal.invariant_of-result
invariant_of-result c = named_empty _ _ c.new.ensures.empty c.empty.ensures.keys

pub returns-clause-none : goal.returns-clause-none
returns-clause-none c = none_held _ _ c.new.ensures.empty

pub returns-clause-parked : goal.returns-clause-parked
returns-clause-parked c = none_parked _ _ _ c.new.ensures.empty
