-- The node is among the parts that stand in the rest.
use Rattle.std.proofs.Common.{◌-◌}
use Rattle.json_text.proofs.Seeking.{Seeking}
use Rattle.json_text.proofs.tree.Tree.start.Given as goal

abbrev pub invariant-loop-index : goal.invariant-loop-index
invariant-loop-index l = Seeking l.self l.target l.index l.rest

abbrev pub decreases-loop-index : goal.decreases-loop-index
decreases-loop-index l = l.target - l.index
