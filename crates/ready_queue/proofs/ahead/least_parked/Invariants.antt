use Rattle.ready_queue.proofs.AheadLemmas.{IsWalkingOn}
use Rattle.ready_queue.proofs.ahead.least_parked.Given as goal

abbrev pub invariant-loop-moment : goal.invariant-loop-moment
invariant-loop-moment l =
    goal.iterator-loop-moment.can_next l.moment-iterator ×
    goal.iterator-loop-moment.is_finite l.moment-iterator ×
    IsWalkingOn l.cells l.throttle l.t l.listed.items l.listed.ready l.fn.first l.later.entries l.moment-iterator l.best
