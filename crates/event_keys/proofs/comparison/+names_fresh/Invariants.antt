use Rattle.std.proofs.Common.{◌≡◌, drop}
use Rattle.expr.specs.Trees.{trees_of}
use Rattle.event_keys.specs.Buckets.{name_fresh}
use Rattle.event_keys.proofs.comparison.+names_fresh.Given as goal

abbrev pub invariant-any_names_fresh-loop-term : goal.invariant-any_names_fresh-loop-term
invariant-any_names_fresh-loop-term l = name_fresh (trees_of l.term-items) ≡ name_fresh (trees_of (drop l.term-index l.term-items))
