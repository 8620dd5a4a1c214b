use Rattle.std.proofs.Common.{List, sym, ◌∙◌, subst}
use Rattle.lists.specs.Entries.{pair_cmp}
use Rattle.lists.proofs.Keyed.{filter_none}
use Rattle.ordered.specs.Indexes.{IsListed}
use Rattle.ordered.proofs.Listed.{listed_removed}
use Rattle.ordered.proofs.Sorted.{pair_total}
use Rattle.admission.specs.Indexes.{issue_place}
use Rattle.admission.specs.Issues.{call_of, has_call}
use Rattle.admission.specs.declared.issue.Issue.{Issue}
use Rattle.admission.proofs.placed.Placed.take.Goals as goal

pub invariant_of-self : goal.invariant_of-self
invariant_of-self c =
    subst (λ (es : List Issue). IsListed pair_cmp issue_place call_of es c.self.inside.places.keys) (sym (c.take.ensures.left ∙ filter_none (has_call c.args.call) _ (sym c.in_err-issue.ensures.value))) c.self.invariant

pub invariant_of-self-2 : goal.invariant_of-self-2
invariant_of-self-2 c =
    listed_removed pair_total issue_place call_of c.part_of.result c.args.call c.in_ok-issue.issue _ _ _ _ c.self.invariant (sym c.in_ok-issue.ensures.value) c.part_of.ensures c.take.ensures.left c.remove.ensures.updates.0
