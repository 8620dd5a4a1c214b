use Rattle.std.proofs.Common.{List, sym, ◌∙◌, ap}
use Rattle.std.specs.List.{list_any}
use Rattle.admission.specs.Issues.{call_of, is_issue_of}
use Rattle.admission.specs.declared.issue.Issue.{Issue}
use Rattle.admission.proofs.Found.{asked_issue, at_any, at_target, issues_asked, none_at_target}
use Rattle.admission.proofs.placed.Placed.has.Goals as goal

pub returns-in_default : goal.returns-in_default
returns-in_default c =
    let issues : List Issue = c.self.inside.issues in
    sym (none_at_target (λ (i : Issue). i.item) call_of c.args.run c.args.target.now (asked_issue c.args.target.now issues) issues _ c.self.invariant (issues_asked c.args.target.now issues) c.in_default.ensures.none)
    ∙ ap (λ (is : List Issue). list_any (is_issue_of c.args.run c.args.target.now) is) c.self.view_is

pub returns : goal.returns
returns c =
    let issues : List Issue = c.self.inside.issues in
    sym (at_any call_of (is_issue_of c.args.run c.args.target.now) c.in-Some._call issues
    (at_target (λ (i : Issue). i.item) call_of c.args.run c.in-Some._call c.args.target.now (asked_issue c.args.target.now issues) issues _ c.self.invariant (issues_asked c.args.target.now issues) c.in-Some.ensures.some.0 c.in-Some.ensures.some.1))
    ∙ ap (λ (is : List Issue). list_any (is_issue_of c.args.run c.args.target.now) is) c.self.view_is
