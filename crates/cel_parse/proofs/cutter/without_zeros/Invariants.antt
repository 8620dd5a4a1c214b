use Rattle.std.proofs.Common.{◌≡◌, length}
use Rattle.expr.specs.Tokens.{without_zeros}
use Rattle.cel_parse.proofs.cutter.without_zeros.Given as goal

abbrev pub invariant-loop-rest : goal.invariant-loop-rest
invariant-loop-rest l = without_zeros l.rest ≡ without_zeros l.bytes

abbrev pub decreases-loop-rest : goal.decreases-loop-rest
decreases-loop-rest l = length l.rest
