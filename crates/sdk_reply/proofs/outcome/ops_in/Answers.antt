use Rattle.std.proofs.Common.{rules, ◌≡◌, ◌⊎◌, inl, inr, ◌∙◌, sym, ap, subst, IfOk, Result, Err, List}
use Rattle.json_text.specs.Nodes.{item_nodes, kind_of, value_at}
use Rattle.json_text.specs.declared.kind.Kind.TheVariants as kind
use Rattle.kinds.specs.declared.reply.After.{After}
use Rattle.kinds.specs.declared.reply.Op.{Op}
use Rattle.kinds.specs.declared.reply.Outcome.{Outcome}
use Rattle.kinds.specs.declared.reply.Outcome.TheVariants.{Ops}
use Rattle.kinds.specs.declared.reply.ReplyIn.{ReplyIn}
use Rattle.std.specs.Prelude.{Bool, ℕ}
use Rattle.sdk_reply.specs.Ops.{ops_at}
use Rattle.sdk_reply.specs.Outcome.{ops_from, says_no_retry, unreadable}
use Rattle.sdk_reply.specs.declared.ops.OpsFault.{OpsFault}
use Rattle.sdk_reply.specs.declared.ops.OpsFault.TheVariants as fault
use Rattle.sdk_reply.proofs.Roots.{ops-in-root}
use Rattle.sdk_reply.proofs.outcome.ops_in.Goals as goal

-- what the operations come to is the same for the fault that was found
faulty : (reply : ReplyIn) (told : Result (List Op) OpsFault) (found : OpsFault) (at : ℕ) → (told ≡ Err found) ⊎ (found ≡ fault.Memory) → found ≡ fault.NotValid at → unreadable reply at ≡ ops_from reply told
faulty reply told found at (inl e) is = sym (ap (λ r. ops_from reply r) (e ∙ ap (λ (f : OpsFault). Err f) is))
faulty reply told found at (inr memory) is = absurd (cc)

pub returns-in-Ok : goal.returns-in-Ok
returns-in-Ok c =
    let d = c.args.tree.now in
    let reply = c.args.reply.now in
    let is : kind_of (value_at d c.root-root.result) ≡ kind.List = search rules in
    let all = ops-in-root reply d c.root-root.result c.root-root.ensures.node c.root-root.ensures.value is in
    ap (λ (said : Bool). Ops c.in-Ok.ops said c.after_of.result) c.says_no_retry.ensures
    ∙ ap (λ (after : After). Ops c.in-Ok.ops (says_no_retry reply) after) c.after_of.ensures
    ∙ sym (ap (λ r. ops_from reply r) c.in-Ok.ensures)
    ∙ sym all

pub returns-in-Err-NotValid : goal.returns-in-Err-NotValid
returns-in-Err-NotValid c =
    let d = c.args.tree.now in
    let reply = c.args.reply.now in
    let is : kind_of (value_at d c.root-root.result) ≡ kind.List = search rules in
    let all = ops-in-root reply d c.root-root.result c.root-root.ensures.node c.root-root.ensures.value is in
    let f = c.in-Err-NotValid in
    subst (λ (told : Outcome). IfOk c.unreadable-in-Err-NotValid.result (λ outcome. outcome ≡ told))
    (faulty reply (ops_at d (item_nodes d c.root-root.result)) f.field-0 f.at f.ensures f.field-0-is ∙ sym all) c.unreadable-in-Err-NotValid.ensures
