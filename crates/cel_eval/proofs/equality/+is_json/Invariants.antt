use Rattle.std.proofs.Common.{◌≡◌, drop}
use Rattle.json_text.specs.Nodes.{items_of}
use Rattle.cel_eval.specs.Equality.{are_parts}
use Rattle.cel_eval.specs.Operands.{data_of}
use Rattle.cel_eval.proofs.equality.+is_json.Given as goal

abbrev pub invariant-are_parts-loop-k : goal.invariant-are_parts-loop-k
invariant-are_parts-loop-k l =
    are_parts (data_of l.items.items) (items_of l.part) ≡ are_parts (data_of (drop l.k l.items.items)) (drop l.k (items_of l.part))
