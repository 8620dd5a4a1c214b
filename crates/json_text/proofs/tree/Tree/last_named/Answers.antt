-- Each turn takes a name and the value behind it.
use Rattle.std.proofs.Common.{◌≡◌, ◌+◌, ◌*◌, ◌/◌, ap, sym, ◌∙◌, arith, length, subst, Some}
use Rattle.std.specs.Prelude.{bytes_eq, cond}
use Rattle.json_text.proofs.Named.{Found, found-start, member-here, found-on, found-end}
use Rattle.json_text.proofs.Walking.{IsPartAt, first-part}
use Rattle.json_text.specs.Nodes.{value_at, parts_of, nodes, IsNodeOf}
use Rattle.json_text.specs.Text.{unescaped}
use Rattle.json_text.proofs.tree.Tree.last_named.Goals as goal

pub loop-member-init : goal.loop-member-init
loop-member-init c = record {
  at = subst (λ n. IsPartAt c.args.self.now (parts_of (value_at c.args.self.now c.args.node)) (n + 1) 0) (sym c.node.view_is) (first-part c.args.self.now c.args.node c.requires);
  found = found-start c.args.self.now (parts_of (value_at c.args.self.now c.args.node)) c.args.name.now;
  count = ap (λ n. n / 2) c.entry-count.ensures.count ∙ ap (λ n. length (parts_of (value_at c.args.self.now n)) / 2) c.node.view_is;
}

pub entry-value-requires : goal.entry-value-requires
entry-value-requires c = let i = c.loop-member.invariant in
    (member-here c.args.self.now (parts_of (value_at c.args.self.now c.args.node)) c.loop-member.index (c.loop-member._member * 2) i.at (let t = c.loop-member-test.true in let n = i.count in omega (arith, t, n))).name_there

pub spelling-requires : goal.spelling-requires
spelling-requires c = let i = c.loop-member.invariant in
    (member-here c.args.self.now (parts_of (value_at c.args.self.now c.args.node)) c.loop-member.index (c.loop-member._member * 2) i.at (let t = c.loop-member-test.true in let n = i.count in omega (arith, t, n))).name_there

pub entry-index-requires : goal.entry-index-requires
entry-index-requires c = let i = c.loop-member.invariant in
    subst (λ n. IsNodeOf c.args.self.now n) (sym c.entry-value.ensures.next)
    (member-here c.args.self.now (parts_of (value_at c.args.self.now c.args.node)) c.loop-member.index (c.loop-member._member * 2) i.at (let t = c.loop-member-test.true in let n = i.count in omega (arith, t, n))).value_there

pub loop-member-preserved : goal.loop-member-preserved
loop-member-preserved c = let i = c.loop-member.invariant in
    let root = c.args.self.now in let ps = parts_of (value_at c.args.self.now c.args.node) in
    let m = member-here root ps c.loop-member.index (c.loop-member._member * 2) i.at (let t = c.loop-member-test.true in let n = i.count in omega (arith, t, n)) in
    let e : (c.loop-member._member + 1) * 2 ≡ c.loop-member._member * 2 + 2 = omega arith in
    record {
      at = subst (λ n. IsPartAt root ps n ((c.loop-member._member + 1) * 2)) (sym (c.entry-index.ensures.next ∙ ap (λ n. n + length (nodes (value_at root n))) c.entry-value.ensures.next))
          (let v = c.loop-member.index + length (nodes (value_at root c.loop-member.index)) in subst (λ n. IsPartAt root ps (v + length (nodes (value_at root v))) n) (sym e) m.on);
      found = subst (λ n. Found root ps c.args.name.now c.newer-found.result n) (sym e)
          (found-on root ps c.args.name.now c.loop-member.found c.newer-found.result c.stands_for-named.result c.loop-member.index (c.loop-member._member * 2) m
          (c.stands_for-named.ensures ∙ ap (λ w. bytes_eq (unescaped w) c.args.name.now) c.spelling.ensures)
          (c.newer-found.ensures ∙ ap (λ n. cond c.stands_for-named.result (Some n) c.loop-member.found) c.entry-value.ensures.next) i.found);
      count = i.count;
    }

pub returns : goal.returns
returns c = let i = c.loop-member.invariant in
    found-end c.args.self.now (parts_of (value_at c.args.self.now c.args.node)) c.args.name.now c.loop-member.found (c.loop-member._member * 2)
    (let t = c.loop-member-test.false in let b = c.loop-member.auto._member-end in let n = i.count in omega (arith, t, b, n)) i.found
