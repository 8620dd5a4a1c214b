-- The members so far are those of the names so far, and the others are left.
use Rattle.json_text.specs.Nodes.{value_at}
use Rattle.sdk_reply.proofs.Newest.{IsPassing}
use Rattle.sdk_reply.proofs.op_members.OpMembers.plain.Given as goal

abbrev pub invariant-loop-name : goal.invariant-loop-name
invariant-loop-name l =
    (goal.iterator-loop-name).can_next l.name-iterator ×
    (goal.iterator-loop-name).is_finite l.name-iterator ×
    IsPassing l.tree (value_at l.tree l.fn.node) l.name-iterator l.members
