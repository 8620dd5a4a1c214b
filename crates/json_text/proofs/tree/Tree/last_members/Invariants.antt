-- The members so far are kept by name.
use Rattle.std.specs.List.{AllByRecursion}
use Rattle.json_text.specs.Canonical.{named}
use Rattle.json_text.specs.Nodes.{members_of, value_at}
use Rattle.json_text.proofs.OneText.{Gathering, IsMemberOf}
use Rattle.json_text.proofs.tree.Tree.last_members.Given as goal

abbrev pub invariant-loop-name : goal.invariant-loop-name
invariant-loop-name l =
    (goal.iterator-loop-name).can_next l.name-iterator ×
    (goal.iterator-loop-name).is_finite l.name-iterator ×
    AllByRecursion (IsMemberOf l.self l.fn.node) l.name-iterator ×
    Gathering l.self l.fn.node (named (members_of (value_at l.self l.fn.node))) l.name-iterator l.last.entries
