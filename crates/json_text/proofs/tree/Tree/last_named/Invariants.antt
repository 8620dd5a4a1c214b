-- The index is that of the next name, and what was found is the last of the name before it.
use Rattle.std.proofs.Common.{◌≡◌, ◌*◌, ◌/◌, length}
use Rattle.json_text.proofs.Named.{Found}
use Rattle.json_text.proofs.Walking.{IsPartAt}
use Rattle.json_text.specs.Nodes.{value_at, parts_of}
use Rattle.json_text.proofs.tree.Tree.last_named.Given as goal

abbrev pub invariant-loop-member : goal.invariant-loop-member
invariant-loop-member l = record {
  at : IsPartAt l.self (parts_of (value_at l.self l.fn.node)) l.index (l._member * 2);
  found : Found l.self (parts_of (value_at l.self l.fn.node)) l.name l.found (l._member * 2);
  count : l.count ≡ length (parts_of (value_at l.self l.fn.node)) / 2;
}
