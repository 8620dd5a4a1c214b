-- The index is that of the part whose number the loop counts.
use Rattle.std.proofs.Common.{◌<◌, length}
use Rattle.json_text.proofs.Walking.{IsPartAt}
use Rattle.json_text.specs.Nodes.{value_at, parts_of}
use Rattle.json_text.proofs.tree.Tree.part.Given as goal

abbrev pub invariant-loop-step : goal.invariant-loop-step
invariant-loop-step l = record {
  at : IsPartAt l.self (parts_of (value_at l.self l.fn.node)) l.index l._step;
  within : l.k < length (parts_of (value_at l.self l.fn.node));
}
