-- Half the parts of an object.
use Rattle.std.proofs.Common.{◌≡◌, ◌∙◌, ◌/◌, ap, length, subst, sym}
use Rattle.json_text.specs.Nodes.{members_of, value_at}
use Rattle.json_text.proofs.Siblings.{object-members}
use Rattle.json_text.proofs.tree.Tree.member_count.Goals as goal

pub returns-in-Object-clause-count : goal.returns-in-Object-clause-count
returns-in-Object-clause-count c =
    subst (λ n. c.entry-entry.result.count / 2 ≡ length (members_of (value_at c.args.self.now n))) c.node.view_is
    (ap (λ n. n / 2) c.entry-entry.ensures.count ∙ object-members (value_at c.args.self.now _) (sym c.entry-entry.ensures.kind ∙ c.in-Object.is))
