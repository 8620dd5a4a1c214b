use Rattle.std.proofs.Common.{◌≡◌, List, Option, drop, sym, ◌∙◌, ap}
use Rattle.std.specs.List.{find, slice_get}
use Rattle.admission.specs.Admission.{Admission}
use Rattle.admission.specs.Issues.{has_call, without_call}
use Rattle.admission.specs.declared.issue.Issue.{Issue}
use Rattle.admission.proofs.CallLemmas.{first_found, none_first}
use Rattle.admission.proofs.Found.{if_ok_weaker, ok_weaker}
use Rattle.admission.proofs.Whole.{same_issues, without_none}
use Rattle.admission.proofs.admission.Admission.take_first.Goals as goal

pub returns-in_default-clause-value : goal.returns-in_default-clause-value
returns-in_default-clause-value c =
    sym (ap (λ (is : List Issue). slice_get is 0) (none_first c.self.inside.calls (sym c.in_default.ensures.first))) ∙ ap (λ (a : Admission). slice_get a.issues 0) c.self.view_is

pub returns-in_default-clause-left : goal.returns-in_default-clause-left
returns-in_default-clause-left c =
    without_none c.args.self.now (ap (λ (a : Admission). a.issues) (sym c.self.view_is) ∙ none_first c.self.inside.calls (sym c.in_default.ensures.first))

pub returns-clause-value : goal.returns-clause-value
returns-clause-value c =
    if_ok_weaker (λ (r : Option Issue). r ≡ find (has_call c.in-Some.call) c.args.self.now.issues) (λ r. r ≡ slice_get c.args.self.now.issues 0) c.close.result
    (λ r h. h ∙ ap (λ (a : Admission). find (has_call c.in-Some.call) a.issues) (sym c.self.view_is) ∙ (first_found c.in-Some.call _ c.in-Some.ensures.apart (sym c.in-Some.ensures.first)).0 ∙ ap (λ (a : Admission). slice_get a.issues 0) c.self.view_is)
    c.close.ensures.value

pub returns-clause-left : goal.returns-clause-left
returns-clause-left c =
    ok_weaker (c.close.new.self ≡ record c.args.self.now { issues = without_call c.in-Some.call c.args.self.now.issues }) (c.close.new.self ≡ record c.args.self.now { issues = drop 1 c.args.self.now.issues }) c.close.result
    (λ h. h ∙ same_issues c.args.self.now _ _
    (ap (λ (a : Admission). without_call c.in-Some.call a.issues) (sym c.self.view_is) ∙ (first_found c.in-Some.call _ c.in-Some.ensures.apart (sym c.in-Some.ensures.first)).1 ∙ ap (λ (a : Admission). drop 1 a.issues) c.self.view_is))
    c.close.ensures.left
