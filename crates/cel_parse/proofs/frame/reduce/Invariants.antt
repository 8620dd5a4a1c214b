use Rattle.std.proofs.Common.{◌≡◌, length}
use Rattle.expr.specs.Reading.{reduce}
use Rattle.expr.specs.Trees.{tree_of}
use Rattle.cel_parse.specs.Frames.{open_in}
use Rattle.cel_parse.proofs.frame.reduce.Given as goal

abbrev pub invariant-loop-frame : goal.invariant-loop-frame
invariant-loop-frame l = reduce l.fn.least (open_in l.stack) (tree_of l.whole) ≡ reduce l.fn.least (open_in l.initial.stack) (tree_of l.initial.whole)

abbrev pub decreases-loop-frame : goal.decreases-loop-frame
decreases-loop-frame l = length (open_in l.stack)
