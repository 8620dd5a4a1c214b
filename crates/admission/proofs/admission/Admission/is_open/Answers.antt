use Rattle.std.proofs.Common.{sym, ◌∙◌, ap}
use Rattle.std.specs.List.{list_any}
use Rattle.admission.specs.Admission.{Admission}
use Rattle.admission.specs.Issues.{has_call}
use Rattle.admission.proofs.Found.{any_none, any_some}
use Rattle.admission.proofs.admission.Admission.is_open.Goals as goal

pub returns-in_default : goal.returns-in_default
returns-in_default c =
    sym (any_none (has_call c.args.call) c.self.inside.calls (sym c.in_default.ensures.value)) ∙ ap (λ (a : Admission). list_any (has_call c.args.call) a.issues) c.self.view_is

pub returns : goal.returns
returns c =
    sym (any_some (has_call c.args.call) c.self.inside.calls c.in-Some._issue.now (sym c.in-Some.ensures.value)) ∙ ap (λ (a : Admission). list_any (has_call c.args.call) a.issues) c.self.view_is
