-- The reader is where the automaton is behind the bytes so far.
use Rattle.json_text.proofs.Whole.{ReadsTo}
use Rattle.json_text.proofs.tree.Tree.read.Given as goal

abbrev pub invariant-loop-at : goal.invariant-loop-at
invariant-loop-at l = ReadsTo l.bytes l.reader l.at
