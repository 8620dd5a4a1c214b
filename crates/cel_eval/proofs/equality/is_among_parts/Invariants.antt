use Rattle.std.proofs.Common.{◌≡◌}
use Rattle.json_text.specs.Nodes.{items_of}
use Rattle.cel_eval.specs.Equality.{is_among_parts}
use Rattle.cel_eval.specs.Operands.{datum_of}
use Rattle.cel_eval.proofs.equality.is_among_parts.Given as goal

abbrev pub invariant-loop-item : goal.invariant-loop-item
invariant-loop-item l =
    (goal.iterator-loop-item).can_next l.item-iterator ×
    (goal.iterator-loop-item).is_finite l.item-iterator ×
    (is_among_parts (datum_of l.operand) (items_of l.part) ≡ is_among_parts (datum_of l.operand) l.item-iterator)
