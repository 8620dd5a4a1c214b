use Rattle.ready_queue.specs.Keys.{Changes}
use Rattle.ready_queue.proofs.FrontLemmas.{shown}
use Rattle.ready_queue.proofs.fronts.show.Goals as goal

pub returns-clause-ok : goal.returns-clause-ok
unfolding Changes
returns-clause-ok c = shown c.args.group c.args.place _ _ c.in_ok-insert.ensures.updates.0
