use Rattle.std.specs.Vec.Iter.{into_iter_items}
use Rattle.machine.specs.View.{state_of}
use Rattle.machine.specs.Words.{event_at}
use Rattle.machine.proofs.HeldRequests.{IsCancelling}
use Rattle.machine.proofs.parts.Parts.cancel_by.Given as goal

abbrev pub invariant-loop-run : goal.invariant-loop-run
invariant-loop-run g l =
    IsCancelling (event_at l.number l.name (state_of l.initial.self)) (into_iter_items l.run-iterator) l.initial.self
    l.self
