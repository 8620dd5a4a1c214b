-- Each member is put under its name.
use Rattle.std.proofs.Common.{◌∙◌, ap, subst, sym}
use Rattle.std.specs.List.{AllByRecursion}
use Rattle.json_text.specs.Canonical.{named}
use Rattle.json_text.specs.Nodes.{members_of, value_at}
use Rattle.json_text.specs.Text.{unescaped}
use Rattle.json_text.proofs.OneText.{Gathering, IsMemberOf, gathering-start, gathering-more, members-inside}
use Rattle.json_text.proofs.tree.Tree.last_members.Goals as goal

pub loop-name-init : goal.loop-name-init
loop-name-init c =
    let d = c.args.self.now in let n = c.args.node in let all = named (members_of (value_at d n)) in
    let m = c.members-name-items in
    let h = subst (λ ms. AllByRecursion (IsMemberOf d n) ms × Gathering d n all ms c.new-last.result.entries) (sym c.into_iter-name-iterator.ensures.into_iter_gives)
    (members-inside d n m.result m.ensures.there m.ensures.values, gathering-start d n all m.result c.new-last.result.entries c.new-last.ensures.empty (ap named (sym m.ensures.values))) in
    (tt, tt, h.0, h.1)

pub loop-name-preserved : goal.loop-name-preserved
loop-name-preserved c =
    let d = c.args.self.now in let n = c.args.node in let all = named (members_of (value_at d n)) in
    let h = subst (λ ms. AllByRecursion (IsMemberOf d n) ms × Gathering d n all ms c.loop-name.last.entries) c.in-Some.ensures.steps (c.loop-name.invariant.2, c.loop-name.invariant.3) in (
      tt,
      tt,
      h.0.1,
      gathering-more d n all c.in-Some.name c.in-Some.value c.next.new.self c.loop-name.last.entries c.insert.new.self.entries c.in_ok-text.text h.1 h.0.0.1
          (c.in_ok-text.ensures ∙ ap unescaped c.slice.ensures) c.in_ok-insert.ensures.entries,
    )
