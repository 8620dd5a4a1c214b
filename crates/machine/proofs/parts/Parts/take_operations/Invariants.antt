use Rattle.std.proofs.Common.{◌≡◌, length}
use Rattle.std.specs.Vec.Iter.{into_iter_items, into_iter_len}
use Rattle.machine.proofs.HeldOperations.{IsTaking}
use Rattle.machine.proofs.parts.Parts.take_operations.Given as goal

abbrev pub invariant-loop-op : goal.invariant-loop-op
invariant-loop-op g l =
    IsTaking l.item l.no_retry l.fn.ops (into_iter_items l.op-iterator) l.initial.self l.self l.again
    × (into_iter_len l.op-iterator ≡ length (into_iter_items l.op-iterator))
