use Rattle.std.proofs.Common.{◌≡◌, ◌++◌}
use Rattle.std.specs.Vec.Iter.{into_iter_items}
use Rattle.event_keys.specs.Cells.{lowered}
use Rattle.event_keys.proofs.cells.lowered.Given as goal

abbrev pub invariant-loop-other : goal.invariant-loop-other
invariant-loop-other l = l.all ++ lowered l.added (into_iter_items l.other-iterator) ≡ lowered l.added l.fn.cells
