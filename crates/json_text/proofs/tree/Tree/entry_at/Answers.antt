-- The invariant at one node.
use Rattle.std.proofs.Common.{ap, arith, length}
use Rattle.json_text.proofs.Walking.{shown-at, tree-length}
use Rattle.json_text.proofs.tree.Tree.entry_at.Goals as goal

within : goal.bounds-as_slice-index
within c = let l = tree-length c.self.inside.bytes.now c.self.inside.nodes.items c.args.self.now c.self.invariant c.self.view_is in
    let e = ap length c.as_slice.ensures.value in let r = c.requires in omega (arith, l, e, r)

pub bounds-as_slice-index : goal.bounds-as_slice-index
bounds-as_slice-index c = within c

pub offset_bounds-as_slice-index : goal.offset_bounds-as_slice-index
offset_bounds-as_slice-index c = let l = tree-length c.self.inside.bytes.now c.self.inside.nodes.items c.args.self.now c.self.invariant c.self.view_is in
    let e = ap length c.as_slice.ensures.value in let r = c.requires in omega (arith, l, e, r)

pub returns : goal.returns
returns c = shown-at c.self.inside.bytes.now c.self.inside.nodes.items c.as_slice.result.now c.args.self.now c.args.index _ c.as_slice.ensures.value c.self.invariant c.self.view_is c.requires
