use Rattle.std.proofs.Common.{◌≡◌, length}
use Rattle.cel_eval.specs.Operations.{stands_in}
use Rattle.cel_eval.proofs.pairs.stands_in.Given as goal

abbrev pub invariant-loop-rest : goal.invariant-loop-rest
invariant-loop-rest l = stands_in l.fn.text l.part ≡ stands_in l.rest l.part

abbrev pub decreases-loop-rest : goal.decreases-loop-rest
decreases-loop-rest l = length l.rest
