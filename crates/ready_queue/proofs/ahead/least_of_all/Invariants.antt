use Rattle.ready_queue.proofs.AheadLemmas.{IsNaming}
use Rattle.ready_queue.proofs.ahead.least_of_all.Given as goal

abbrev pub invariant-loop-group : goal.invariant-loop-group
invariant-loop-group l =
    goal.iterator-loop-group.can_next l.group-iterator ×
    goal.iterator-loop-group.is_finite l.group-iterator ×
    IsNaming l.cells l.throttle l.t l.listed.items l.listed.ready l.fn.first l.group-iterator l.best
