use Rattle.matching.proofs.gather.gather.Given as goal
use Rattle.matching.proofs.Groups.{IsGathering}

abbrev pub invariant-loop-pair : goal.invariant-loop-pair
invariant-loop-pair g l = IsGathering g.K.Ord.cmp l.start.0 l.initial.found.keys l.found.keys l.initial.pairs.keys l.pair-iterator
