use Rattle.std.proofs.Common.{sym, ◌∙◌, ap}
use Rattle.std.specs.List.{find}
use Rattle.admission.specs.Admission.{Admission}
use Rattle.admission.specs.Issues.{has_call}
use Rattle.admission.proofs.Whole.{whole_closed, whole_fewer, without_missing}
use Rattle.admission.proofs.admission.Admission.close.Goals as goal

pub invariant_of-self : goal.invariant_of-self
invariant_of-self c = whole_fewer _ _ _ _ _ _ c.self.invariant c.freed.ensures.fewer

pub invariant_of-self-2 : goal.invariant_of-self-2
invariant_of-self-2 c =
    whole_closed _ _ _ _ _ _ _ _ c.args.call c.in-Some.issue.now c.self.invariant c.in-Some.ensures.apart (sym c.in-Some.ensures.value) c.in_ok-freed.ensures.fewer c.in_ok-freed.ensures.ok c.leave.ensures c.take.ensures.left

pub returns-in_default-clause-left : goal.returns-in_default-clause-left
returns-in_default-clause-left c =
    without_missing c.args.self.now c.args.call (ap (λ (a : Admission). find (has_call c.args.call) a.issues) (sym c.self.view_is) ∙ sym c.in_default.ensures.value)
