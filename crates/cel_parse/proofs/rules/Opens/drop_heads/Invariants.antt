use Rattle.std.proofs.Common.{◌≡◌, length}
use Rattle.cel_parse.specs.Rules.{without_heads}
use Rattle.cel_parse.proofs.rules.Opens.drop_heads.Given as goal

abbrev pub invariant-loop-shape : goal.invariant-loop-shape
invariant-loop-shape l = without_heads l.self ≡ without_heads l.initial.self

abbrev pub decreases-loop-shape : goal.decreases-loop-shape
decreases-loop-shape l = length l.self
