use Rattle.std.proofs.Common.{◌≡◌, length}
use Rattle.cel_parse.specs.Rules.{without_signs}
use Rattle.cel_parse.proofs.rules.Opens.drop_signs.Given as goal

abbrev pub invariant-loop-shape : goal.invariant-loop-shape
invariant-loop-shape l = without_signs l.self ≡ without_signs l.initial.self

abbrev pub decreases-loop-shape : goal.decreases-loop-shape
decreases-loop-shape l = length l.self
