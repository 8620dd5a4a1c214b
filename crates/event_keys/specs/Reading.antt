-- What the code keeps of an event's text and of an expression, as the definitions see it.
use Rattle.std.specs.Prelude.{Option, Some, None}
use Rattle.json_text.specs.Grammar.{Json}
use Rattle.json_text.specs.Nodes.{Document}
use Rattle.expr.specs.Trees.{tree_of}
use Rattle.event_keys.specs.Buckets.{Compared}
use Rattle.event_keys.specs.declared.comparison.Comparison.{Comparison}

-- what the tree of a text tells
abbrev pub tree_json : Option Document → Option Json
tree_json None = None
tree_json (Some tree) = Some tree.value

abbrev pub compared_of : Comparison → Compared
compared_of c = record { path = c.path; to = tree_of c.to.now }
