use Rattle.std.proofs.Common.{◌≡◌, take, map}
use Rattle.expr.specs.Trees.{tree_of}
use Rattle.expr.proofs.term.+copy.Given as goal

abbrev pub invariant-copy_all-loop-term : goal.invariant-copy_all-loop-term
invariant-copy_all-loop-term l = map tree_of l.copies.items ≡ map tree_of (take l.term-index l.term-items)
