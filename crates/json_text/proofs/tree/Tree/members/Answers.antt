-- The first name stands right behind its object.
use Rattle.std.proofs.Common.{◌+◌, ◌∙◌, ap, map, subst, sym}
use Rattle.std.specs.List.{AllByRecursion}
use Rattle.json_text.specs.Nodes.{AreNodesOf, sibling_pairs, values_at}
use Rattle.json_text.proofs.Siblings.{members-from}
use Rattle.json_text.proofs.tree.Tree.members.Goals as goal

pub new-requires : goal.new-requires
new-requires c = (members-from c.args.self.now c.args.node _ c.member_count-count.result c.node.view_is c.requires c.member_count-count.ensures.count).there

pub returns-clause-nodes : goal.returns-clause-nodes
returns-clause-nodes c = c.new.ensures ∙ ap (λ n. sibling_pairs c.args.self.now (n + 1) c.member_count-count.result) c.node.view_is
    ∙ ap (λ n. sibling_pairs c.args.self.now (c.args.node + 1) n) c.member_count-count.ensures.count

pub returns-clause-there : goal.returns-clause-there
returns-clause-there c = subst (λ ms. AllByRecursion (AreNodesOf c.args.self.now) ms) (sym c.new.ensures)
    (members-from c.args.self.now c.args.node _ c.member_count-count.result c.node.view_is c.requires c.member_count-count.ensures.count).there

pub returns-clause-values : goal.returns-clause-values
returns-clause-values c = ap (map (values_at c.args.self.now)) c.new.ensures
    ∙ (members-from c.args.self.now c.args.node _ c.member_count-count.result c.node.view_is c.requires c.member_count-count.ensures.count).are
