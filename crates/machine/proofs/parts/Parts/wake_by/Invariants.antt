use Rattle.std.specs.Vec.Iter.{into_iter_items}
use Rattle.machine.specs.Words.{when_of}
use Rattle.machine.proofs.HeldEvents.{IsWaking}
use Rattle.machine.proofs.parts.Parts.wake_by.Given as goal

abbrev pub invariant-loop-wait : goal.invariant-loop-wait
invariant-loop-wait g l =
    IsWaking (when_of l.discovery) l.number l.name (into_iter_items l.wait-iterator) l.initial.self l.self
