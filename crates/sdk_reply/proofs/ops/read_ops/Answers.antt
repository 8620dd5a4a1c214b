use Rattle.std.proofs.Common.{inl, sym, ◌∙◌, ap, subst, refl, Bool, Err, ℕ, List}
use Rattle.json_text.specs.Nodes.{item_nodes, value_at}
use Rattle.sdk_reply.specs.Operations.{op_of}
use Rattle.sdk_reply.specs.Ops.{IsAdded}
use Rattle.sdk_reply.specs.declared.ops.OpsFault.TheVariants as fault
use Rattle.sdk_reply.proofs.Lists.{IsReading, reading-added, reading-refused, reading-end}
use Rattle.sdk_reply.proofs.ops.read_ops.Goals as goal

pub returns-then-not-branch : goal.returns-then-not-branch
returns-then-not-branch c =
    let d = c.args.tree.now in
    let nodes = item_nodes d c.args.list in
    let told = op_of (value_at d c.in-Some.node) in
    let here = subst (λ (left : List ℕ). IsReading d nodes left c.loop-node.ops) c.in-Some.ensures.steps c.loop-node.invariant.2 in
    let none = subst (λ (valid : Bool). IsAdded c.loop-node.ops told c.push_operation.new.ops valid) c.if-not-branch.true c.in_ok-push_operation.ensures in
    inl (reading-refused d nodes c.in-Some.node c.next.new.self c.loop-node.ops c.push_operation.new.ops told here refl none ∙ ap (λ (at : ℕ). Err (fault.NotValid at)) (sym c.start.ensures))

pub loop-node-preserved : goal.loop-node-preserved
loop-node-preserved c =
    let d = c.args.tree.now in
    let nodes = item_nodes d c.args.list in
    let told = op_of (value_at d c.in-Some.node) in
    let here = subst (λ (left : List ℕ). IsReading d nodes left c.loop-node.ops) c.in-Some.ensures.steps c.loop-node.invariant.2 in
    let added = subst (λ (valid : Bool). IsAdded c.loop-node.ops told c.push_operation.new.ops valid) c.if-not-branch.false c.in_ok-push_operation.ensures in
    (tt, tt, reading-added d nodes c.in-Some.node c.next.new.self c.loop-node.ops c.push_operation.new.ops told here refl added)

pub returns : goal.returns
returns c =
    let d = c.args.tree.now in
    let nodes = item_nodes d c.args.list in
    reading-end d nodes c.loop-node.ops (subst (λ (left : List ℕ). IsReading d nodes left c.loop-node.ops) c.in-None.ensures.steps.0 c.loop-node.invariant.2)
