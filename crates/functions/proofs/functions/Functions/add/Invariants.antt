use Rattle.std.proofs.Common.{◌≡◌, ◌++◌, ◌+◌, length}
use Rattle.std.specs.Vec.Iter.{into_iter_items, into_iter_len}
use Rattle.functions.specs.Functions.{numbered}
use Rattle.functions.proofs.functions.Functions.add.Given as goal

abbrev pub invariant-loop-function : goal.invariant-loop-function
invariant-loop-function l = (l.entries ++ numbered l.name l.version (into_iter_items l.function-iterator) ≡ l.fn.self ++ numbered l.name l.fn.versions l.fn.functions) × (l.version + length (into_iter_items l.function-iterator) ≡ l.fn.versions + length l.fn.functions)
