-- Each part stands behind the one before it.
use Rattle.std.proofs.Common.{◌≡◌, ◌+◌, ap, sym, arith, length, subst}
use Rattle.json_text.proofs.Walking.{IsPartAt, first-part, part-here}
use Rattle.json_text.specs.Nodes.{value_at, parts_of}
use Rattle.json_text.proofs.tree.Tree.part.Goals as goal

pub loop-step-init : goal.loop-step-init
loop-step-init c = record {
  at = subst (λ n. IsPartAt c.args.self.now (parts_of (value_at c.args.self.now c.args.node)) (n + 1) 0) (sym c.node.view_is) (first-part c.args.self.now c.args.node c.requires);
  within = (let e = c.entry.ensures.count in let i = c.node.view_is in let f = ap (λ n. length (parts_of (value_at c.args.self.now n))) i in omega (arith, e, f));
}

pub entry-index-requires : goal.entry-index-requires
entry-index-requires c = let i = c.loop-step.invariant in (part-here c.args.self.now (parts_of (value_at c.args.self.now c.args.node)) c.loop-step.index c.loop-step._step i.at (let w = i.within in let t = c.loop-step-test.true in omega (arith, w, t))).within

pub loop-step-preserved : goal.loop-step-preserved
loop-step-preserved c = let i = c.loop-step.invariant in record {
  at = subst (λ n. IsPartAt c.args.self.now (parts_of (value_at c.args.self.now c.args.node)) n (c.loop-step._step + 1)) (sym c.entry-index.ensures.next)
      (part-here c.args.self.now (parts_of (value_at c.args.self.now c.args.node)) c.loop-step.index c.loop-step._step i.at (let w = i.within in let t = c.loop-step-test.true in omega (arith, w, t))).on;
  within = i.within;
}

pub returns : goal.returns
returns c = let i = c.loop-step.invariant in
    let e : c.loop-step._step ≡ c.args.k = (let t = c.loop-step-test.false in let b = c.loop-step.auto._step-end in omega (arith, t, b)) in
    let p = part-here c.args.self.now (parts_of (value_at c.args.self.now c.args.node)) c.loop-step.index c.args.k (subst (λ n. IsPartAt c.args.self.now (parts_of (value_at c.args.self.now c.args.node)) c.loop-step.index n) e i.at) i.within in
    (p.within, p.is)
