use Rattle.ready_queue.proofs.ScanLemmas.{IsNext}
use Rattle.ready_queue.proofs.store.Store.next.Given as goal

abbrev pub invariant-loop-item : goal.invariant-loop-item
invariant-loop-item l =
    goal.iterator-loop-item.can_next l.item-iterator ×
    goal.iterator-loop-item.is_finite l.item-iterator ×
    IsNext l.cells l.throttle l.t l.self l.item-iterator l.next
