use Rattle.runs.proofs.Mentioned.{IsGathering}
use Rattle.runs.proofs.mentions.gather.Given as goal

abbrev pub invariant-loop-pair : goal.invariant-loop-pair
invariant-loop-pair l = IsGathering l.part l.numbers l.initial.pairs.keys l.pair-iterator
