use Rattle.std.proofs.Common.{◌==◌, List, sym, ◌∙◌, ap}
use Rattle.admission.specs.Issues.{call_of, has_open_call}
use Rattle.admission.specs.declared.issue.Issue.{Issue}
use Rattle.admission.proofs.Found.{at_any, at_run, none_at_run}
use Rattle.admission.proofs.placed.Placed.has_run.Goals as goal

pub returns-in_default : goal.returns-in_default
returns-in_default c =
    sym (none_at_run (λ (i : Issue). i.item) call_of c.args.run c.self.inside.issues _ c.self.invariant c.in_default.ensures.none) ∙ ap (λ (is : List Issue). has_open_call is c.args.run) c.self.view_is

pub returns : goal.returns
returns c =
    sym (at_any call_of (λ (i : Issue). c.args.run == i.item.run) c.in-Some._call c.self.inside.issues
    (at_run (λ (i : Issue). i.item) call_of c.args.run c.in-Some.ensures.some.0 c.in-Some._call c.self.inside.issues _ c.self.invariant c.in-Some.ensures.some.1))
    ∙ ap (λ (is : List Issue). has_open_call is c.args.run) c.self.view_is
