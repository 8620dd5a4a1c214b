use Rattle.std.proofs.Common.{List, ◌∷◌, [], ◌++◌, ◌∙◌, ap, subst, sym}
use Rattle.admission.specs.declared.issue.Issue.{Issue}
use Rattle.admission.proofs.CallLemmas.{AreBelow, stored_pushed}
use Rattle.admission.proofs.issues.Issues.push.Goals as goal

pub invariant_of-self-2 : goal.invariant_of-self-2
invariant_of-self-2 c =
    (stored_pushed c.self.inside.issues.entries c.insert.new.self.entries c.args.issue c.self.invariant (subst (AreBelow c.args.issue.call) (sym c.self.view_is) c.requires.below)
    c.in_ok-insert.ensures.entries c.in_ok-insert.ensures.ordered).1

pub returns-clause-ok : goal.returns-clause-ok
returns-clause-ok c =
    (stored_pushed c.self.inside.issues.entries c.insert.new.self.entries c.args.issue c.self.invariant (subst (AreBelow c.args.issue.call) (sym c.self.view_is) c.requires.below)
    c.in_ok-insert.ensures.entries c.in_ok-insert.ensures.ordered).0
    ∙ ap (λ (r : List Issue). r ++ c.args.issue ∷ []) c.self.view_is
