use Rattle.std.proofs.Common.{◌∙◌, ap}
use Rattle.std.specs.List.{find}
use Rattle.kinds.specs.Queue.{has_number}
use Rattle.lists.proofs.Keyed.{find_without}
use Rattle.ready_queue_tests.proofs.tests.put.Goals as goal

pub add-requires-clause-fresh : goal.add-requires-clause-fresh
add-requires-clause-fresh c = ap (find (has_number c.args.item.number)) c.take-old.ensures.left ∙ find_without (has_number c.args.item.number) _
