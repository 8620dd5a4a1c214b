use Rattle.std.proofs.Common.{◌≡◌, drop}
use Rattle.cel_eval.specs.Equality.{all_fit}
use Rattle.cel_eval.specs.Operands.{data_of}
use Rattle.cel_eval.proofs.equality.+fits.Given as goal

abbrev pub invariant-all_fit-loop-item : goal.invariant-all_fit-loop-item
invariant-all_fit-loop-item l = all_fit (data_of l.item-items) ≡ all_fit (data_of (drop l.item-index l.item-items))
