-- Each call goes on at a node with fewer nodes of its own. The texts so far stand behind the bracket.
use Rattle.std.proofs.Common.{◌+◌, ◌*◌, ◌++◌, ◌∷◌, [], length, map}
use Rattle.std.specs.List.{AllByRecursion}
use Rattle.json_text.specs.Canonical.{IsInside, named, seen}
use Rattle.json_text.specs.Nodes.{items_of, members_of, nodes, value_at}
use Rattle.json_text.specs.Same.{by_name, canonical, field_text}
use Rattle.json_text.proofs.OneText.{Listing}
use Rattle.json_text.proofs.tree.Tree.+canonical.Given as goal

abbrev pub decreases-put_value : goal.decreases-put_value
decreases-put_value l = 4 * length (nodes (value_at l.self.now l.node)) + 3

abbrev pub decreases-put_items : goal.decreases-put_items
decreases-put_items l = 4 * length (nodes (value_at l.self.now l.node)) + 2

abbrev pub decreases-put_members : goal.decreases-put_members
decreases-put_members l = 4 * length (nodes (value_at l.self.now l.node)) + 2

abbrev pub decreases-put_member : goal.decreases-put_member
decreases-put_member l = 4 * length (nodes (value_at l.self.now l.value)) + 4

abbrev pub invariant-put_items-loop-item : goal.invariant-put_items-loop-item
invariant-put_items-loop-item l =
    (goal.iterator-put_items-loop-item).can_next l.item-iterator ×
    (goal.iterator-put_items-loop-item).is_finite l.item-iterator ×
    AllByRecursion (IsInside l.self l.fn.node) l.item-iterator ×
    Listing (map canonical (items_of (value_at l.self l.fn.node))) (map canonical (map (value_at l.self) l.item-iterator)) (l.fn.out ++ 0x5b ∷ []) l.out

abbrev pub invariant-put_members-loop-name : goal.invariant-put_members-loop-name
invariant-put_members-loop-name l =
    AllByRecursion (λ e. IsInside l.self l.fn.node e.1) l.fields.entries ×
    Listing (map field_text (by_name [] (named (members_of (value_at l.self l.fn.node))))) (map field_text (seen l.self l.fields.entries)) (l.fn.out ++ 0x7b ∷ []) l.out

abbrev pub decreases-put_members-loop-name : goal.decreases-put_members-loop-name
decreases-put_members-loop-name l = length l.fields.entries
