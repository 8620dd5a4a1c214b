-- The events so far are those of the items so far, and the nodes that are left are those of the others.
use Rattle.json_text.specs.Nodes.{items_of, value_at}
use Rattle.intake.proofs.EventLists.{IsReading}
use Rattle.intake.proofs.events.events_from.Given as goal

abbrev pub invariant-loop-node : goal.invariant-loop-node
invariant-loop-node l =
    (goal.iterator-loop-node).can_next l.node-iterator ×
    (goal.iterator-loop-node).is_finite l.node-iterator ×
    IsReading l.tree (items_of (value_at l.tree l.fn.list)) l.node-iterator l.events
