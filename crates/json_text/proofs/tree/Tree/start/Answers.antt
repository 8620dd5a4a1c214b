-- The rest is that from the node on.
use Rattle.std.proofs.Common.{◌-◌, ◌∙◌, ap, arith, length, subst, sym}
use Rattle.json_text.specs.Nodes.{IsNodeOf, value_at}
use Rattle.json_text.specs.Starts.{start_at}
use Rattle.json_text.proofs.Seeking.{seek-start, seek-here, seek-on, seek-end, seek-nearer, some-nodes}
use Rattle.json_text.proofs.tree.Tree.start.Goals as goal

pub loop-index-init : goal.loop-index-init
loop-index-init c = seek-start c.args.self.now _ _ c.source-rest.ensures (subst (λ n. IsNodeOf c.args.self.now n) (sym c.number-target.ensures) c.requires)

pub toward-requires-clause-node : goal.toward-requires-clause-node
toward-requires-clause-node c = seek-here c.args.self.now _ _ _ c.loop-index.invariant

pub loop-index-preserved : goal.loop-index-preserved
loop-index-preserved c = seek-on c.args.self.now _ c.loop-index.index _ c.loop-index.rest.now c.skipped.result.now c.toward.result.1.now c.loop-index.invariant c.loop-index-test.true c.skipped.ensures c.toward.ensures.index c.toward.ensures.rest

pub loop-index-smaller : goal.loop-index-smaller
loop-index-smaller c = seek-nearer c.args.self.now _ c.loop-index.index _ c.loop-index-test.true (some-nodes (value_at c.args.self.now c.loop-index.index)) c.toward.ensures.index

pub returns : goal.returns
returns c =
    let d = c.args.self.now in
    c.saturating_sub.ensures ∙ ap (λ w. length w - length c.skipped-2.result.now) c.source.ensures
    ∙ ap (λ w. length d.source - length w) (c.skipped-2.ensures ∙ sym (seek-end d c.number-target.result c.loop-index.index c.loop-index.rest.now c.loop-index.invariant (let t = c.loop-index-test.false in omega (arith, t))))
    ∙ ap (λ n. start_at d n) c.number-target.ensures
