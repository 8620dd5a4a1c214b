use Rattle.std.proofs.Common.{sym, ◌∙◌, ap, subst, ℕ, List, None}
use Rattle.json_text.specs.Nodes.{value_at}
use Rattle.json_text.specs.Text.{inside}
use Rattle.sdk_reply.proofs.Newest.{IsPassing, passing-start, passing-more, passing-end}
use Rattle.sdk_reply.proofs.op_members.OpMembers.plain.Goals as goal

pub loop-name-init : goal.loop-name-init
loop-name-init c =
    let d = c.args.tree.now in
    let j = value_at d c.args.node in
    let same = sym c.into_iter-name-iterator.ensures.into_iter_gives in (
      tt,
      tt,
      subst (λ (all : List (ℕ × ℕ)). IsPassing d j all (record { id = None; op = None; «data» = None; error = None; opts = None; name = None })) same
          (passing-start d j c.members-name-items.result c.members-name-items.ensures.there c.members-name-items.ensures.values),
    )

pub loop-name-preserved : goal.loop-name-preserved
loop-name-preserved c =
    let d = c.args.tree.now in
    let j = value_at d c.args.node in
    let here = subst (λ (left : List (ℕ × ℕ)). IsPassing d j left c.loop-name.members) c.in-Some.ensures.steps c.loop-name.invariant.2 in (
      tt,
      tt,
      passing-more d j c.in-Some.name c.in-Some.value c.next.new.self c.loop-name.members c.take.new.self c.inside.result.now here
          (c.inside.ensures ∙ ap inside c.slice.ensures) (sym c.take.ensures.plain ∙ c.if-not-take.false) c.take.ensures.members,
    )

pub returns : goal.returns
returns c =
    let d = c.args.tree.now in
    let j = value_at d c.args.node in
    passing-end d j c.loop-name.members
    (subst (λ (left : List (ℕ × ℕ)). IsPassing d j left c.loop-name.members) c.in-None.ensures.steps.0 c.loop-name.invariant.2)
