-- The operations so far are those of the nodes so far, and the others are left.
use Rattle.json_text.specs.Nodes.{item_nodes}
use Rattle.sdk_reply.proofs.Lists.{IsReading}
use Rattle.sdk_reply.proofs.ops.read_ops.Given as goal

abbrev pub invariant-loop-node : goal.invariant-loop-node
invariant-loop-node l =
    (goal.iterator-loop-node).can_next l.node-iterator ×
    (goal.iterator-loop-node).is_finite l.node-iterator ×
    IsReading l.tree (item_nodes l.tree l.fn.list) l.node-iterator l.ops
