use Rattle.ready_queue.proofs.AheadLemmas.{next_ripe}
use Rattle.ready_queue.proofs.ahead.next_of.Goals as goal

pub least_of_all-requires : goal.least_of_all-requires
least_of_all-requires c = c.in-Some.ensures.due

pub returns-in-Some : goal.returns-in-Some
returns-in-Some c =
    next_ripe _ _ _ _ c.args.listed.now.ready _ _ c.in-Some.ensures c.least_of_all.ensures.further c.least_of_all.ensures.covers
