use Rattle.std.proofs.Common.{◌≡◌, drop}
use Rattle.cel_eval.specs.Equality.{all_equal}
use Rattle.cel_eval.specs.Operands.{data_of}
use Rattle.cel_eval.proofs.equality.+equal.Given as goal

abbrev pub invariant-all_equal-loop-k : goal.invariant-all_equal-loop-k
invariant-all_equal-loop-k l =
    all_equal (data_of l.items.items) (data_of l.others.items) ≡ all_equal (data_of (drop l.k l.items.items)) (data_of (drop l.k l.others.items))
