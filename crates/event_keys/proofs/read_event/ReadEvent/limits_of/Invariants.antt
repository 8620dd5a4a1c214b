use Rattle.std.proofs.Common.{◌≡◌, drop}
use Rattle.event_keys.specs.Cells.{cells_of, cells_with}
use Rattle.event_keys.proofs.read_event.ReadEvent.limits_of.Given as goal

-- the limits that are left, put beside the cells so far
abbrev pub invariant-loop-limit : goal.invariant-loop-limit
invariant-loop-limit l =
    cells_of l.fn.function l.fn.self
    ≡ cells_with l.fn.function.id l.fn.self l.cells (drop l.limit-index l.limit-items)
