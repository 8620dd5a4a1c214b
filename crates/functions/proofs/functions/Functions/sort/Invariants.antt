use Rattle.std.proofs.Common.{◌≡◌, ◌++◌, filter, not}
use Rattle.std.specs.Vec.Iter.{into_iter_items}
use Rattle.functions.specs.Functions.{stays}
use Rattle.functions.proofs.functions.Functions.sort.Given as goal

abbrev pub invariant-loop-entry : goal.invariant-loop-entry
invariant-loop-entry l =
    (l.kept ++ filter (stays l.app) (into_iter_items l.entry-iterator) ≡ filter (stays l.app) l.fn.self)
    × (l.replaced ++ filter (λ f. not (stays l.app f)) (into_iter_items l.entry-iterator)
    ≡ filter (λ f. not (stays l.app f)) l.fn.self)
