-- The first item stands right behind its list.
use Rattle.std.proofs.Common.{◌+◌, ◌∙◌, ap, map, subst, sym}
use Rattle.std.specs.List.{AllByRecursion}
use Rattle.json_text.specs.Nodes.{IsNodeOf, siblings, value_at}
use Rattle.json_text.proofs.Siblings.{items-from}
use Rattle.json_text.proofs.tree.Tree.items.Goals as goal

pub new-requires : goal.new-requires
new-requires c = (items-from c.args.self.now c.args.node _ c.item_count-count.result c.node.view_is c.requires c.item_count-count.ensures.count).there

pub returns-clause-nodes : goal.returns-clause-nodes
returns-clause-nodes c = c.new.ensures ∙ ap (λ n. siblings c.args.self.now (n + 1) c.item_count-count.result) c.node.view_is
    ∙ ap (λ n. siblings c.args.self.now (c.args.node + 1) n) c.item_count-count.ensures.count

pub returns-clause-there : goal.returns-clause-there
returns-clause-there c = subst (λ ns. AllByRecursion (IsNodeOf c.args.self.now) ns) (sym c.new.ensures)
    (items-from c.args.self.now c.args.node _ c.item_count-count.result c.node.view_is c.requires c.item_count-count.ensures.count).there

pub returns-clause-values : goal.returns-clause-values
returns-clause-values c = ap (map (value_at c.args.self.now)) c.new.ensures
    ∙ (items-from c.args.self.now c.args.node _ c.item_count-count.result c.node.view_is c.requires c.item_count-count.ensures.count).are
