use Rattle.std.proofs.Common.{◌≡◌, ◌++◌}
use Rattle.std.specs.Vec.Iter.{into_iter_items}
use Rattle.functions.specs.Functions.{new_beside}
use Rattle.functions.proofs.functions.new_functions.Given as goal

abbrev pub invariant-loop-function : goal.invariant-loop-function
invariant-loop-function l = l.new ++ new_beside l.fn.kept l.fn.name (into_iter_items l.function-iterator) ≡ new_beside l.fn.kept l.fn.name l.fn.functions
