-- What is written so far goes on by the next text.
use Rattle.std.proofs.Common.{◌∙◌, ◌++◌, ◌∷◌, [], ap, map, subst, sym}
use Rattle.std.specs.List.{AllByRecursion}
use Rattle.json_text.specs.Canonical.{IsInside, Writes, named, seen}
use Rattle.json_text.specs.Nodes.{items_of, members_of, value_at}
use Rattle.json_text.specs.Same.{by_name, canonical, field_text}
use Rattle.json_text.specs.declared.kind.Kind.TheVariants as kind
use Rattle.json_text.proofs.OneText.{Listing, items-inside, listing-more, listing-start, of-value-ok}
use Rattle.json_text.proofs.tree.Tree.+canonical.Goals as goal

pub put_items-loop-item-init : goal.put_items-loop-item-init
put_items-loop-item-init t c =
    let d = c.args.self.now in let n = c.args.node in let i = c.items-item-items in let all = map canonical (items_of (value_at d n)) in
    let h = subst (λ ns. AllByRecursion (IsInside d n) ns × Listing all (map canonical (map (value_at d) ns)) (c.args.out.now ++ 0x5b ∷ []) c.push.new.self) (sym c.into_iter-item-iterator.ensures.into_iter_gives)
    (items-inside d n i.result i.ensures.there i.ensures.values, listing-start all _ _ _ (ap (map canonical) i.ensures.values) c.in_ok-push.ensures.ok) in
    (tt, tt, h.0, h.1)

pub put_members-loop-name-init : goal.put_members-loop-name-init
put_members-loop-name-init t c = (c.in_ok-fields.ensures.inside, listing-start _ _ _ _ (ap (map field_text) c.in_ok-fields.ensures.fields) c.in_ok-push.ensures.ok)

pub put_members-loop-name-preserved : goal.put_members-loop-name-preserved
put_members-loop-name-preserved t c =
    let d = c.args.self.now in let n = c.args.node in let all = map field_text (by_name [] (named (members_of (value_at d n)))) in
    let h = subst (λ es. AllByRecursion (λ e. IsInside d n e.1) es × Listing all (map field_text (seen d es)) (c.args.out.now ++ 0x7b ∷ []) c.loop-name.out) c.in-Some.ensures.removal c.loop-name.invariant in
    (h.0.1, listing-more all _ _ _ _ _ _ h.1 (subst (λ k. Writes k c.loop-name.out (field_text (c.in-Some.name, canonical (value_at d c.in-Some.value))) c.put_member.new.out) c.if-not-branch.false c.in_ok-put_member.ensures) c.in_ok-push-2.ensures.ok)

pub put_value-returns-in-List : goal.put_value-returns-in-List
put_value-returns-in-List t c = of-value-ok (value_at c.args.self.now c.args.node) kind.List c.put_items.result _ _ (sym c.kind.ensures ∙ c.in-List.is) c.put_items.ensures

pub put_value-returns-in-Object : goal.put_value-returns-in-Object
put_value-returns-in-Object t c = of-value-ok (value_at c.args.self.now c.args.node) kind.Object c.put_members.result _ _ (sym c.kind.ensures ∙ c.in-Object.is) c.put_members.ensures
