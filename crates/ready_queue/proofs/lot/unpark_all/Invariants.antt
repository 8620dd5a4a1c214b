use Rattle.std.proofs.Common.{◌≡◌}
use Rattle.ready_queue.specs.Held.{AreFewer}
use Rattle.ready_queue.specs.Parking.{AreAmong}
use Rattle.ready_queue.proofs.lot.unpark_all.Given as goal

abbrev pub invariant-loop-group : goal.invariant-loop-group
invariant-loop-group l = (l.listed.items ≡ l.fn.listed.items) × AreFewer l.fn.listed.ready l.listed.ready × AreAmong l.listed.ready l.groups.keys l.group-iterator
