use Rattle.std.proofs.Common.{IfOk, Option, subst}
use Rattle.json_text.specs.Nodes.{value_at}
use Rattle.kinds.specs.declared.reply.Op.{Op}
use Rattle.sdk_reply.specs.Ops.{IsAdded}
use Rattle.sdk_reply.proofs.Asked.{of-members}
use Rattle.sdk_reply.proofs.operation.push_operation.Goals as goal

pub returns : goal.returns
returns c =
    let d = c.args.tree.now in
    let same = of-members d (value_at d c.args.node) c.of-members.result c.of-members.ensures in
    subst (λ (told : Option Op). IfOk c.push_members.result (IsAdded c.args.ops.now told c.push_members.new.ops)) same c.push_members.ensures
