-- What is read of an event's text.
use Rattle.std.proofs.Common.{◌≡◌, List, ℕ, Option, Some, None, Ok, Err, ap}
use Rattle.json_text.specs.Grammar.{Json}
use Rattle.json_text.specs.Texts.{read_text}
use Rattle.json_text.specs.declared.fault.JsonFault.{JsonFault}
use Rattle.expr.specs.Reading.{tree_of_text}
use Rattle.expr.specs.Tree.{Tree}
use Rattle.cel_eval.specs.Data.{Events, seen_outcome}
use Rattle.cel_eval.specs.Table.{value_of, worth, worth_if, worth_of}
use Rattle.event_keys.specs.Expressions.{json_in, json_of}

pub was_read : (w : List ℕ) (j : Json) → read_text w ≡ Ok j → json_of w ≡ Some j
was_read w j h = ap json_in h

pub not_read : (w : List ℕ) (e : JsonFault) → read_text w ≡ Err e → json_of w ≡ None
not_read w e h = ap json_in h

-- an expression's text has its tree's value
pub by_tree : (w : List ℕ) (t : Tree) (events : Events) → tree_of_text w ≡ Some t → value_of w events ≡ seen_outcome (worth t events)
unfolding worth_of
by_tree w t events h = ap (λ (o : Option Tree). seen_outcome (worth_if o events)) h
