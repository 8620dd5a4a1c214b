use Rattle.std.proofs.Common.{◌≡◌, drop}
use Rattle.cel_eval.specs.Equality.{is_among}
use Rattle.cel_eval.specs.Operands.{datum_of, data_of}
use Rattle.cel_eval.proofs.equality.is_among.Given as goal

abbrev pub invariant-loop-item : goal.invariant-loop-item
invariant-loop-item l = is_among (datum_of l.operand) (data_of l.item-items) ≡ is_among (datum_of l.operand) (data_of (drop l.item-index l.item-items))
