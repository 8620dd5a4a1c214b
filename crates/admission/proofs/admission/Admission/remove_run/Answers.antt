use Rattle.admission.proofs.Whole.{whole_same}
use Rattle.admission.proofs.admission.Admission.remove_run.Goals as goal

pub invariant_of-self : goal.invariant_of-self
invariant_of-self c = whole_same _ _ _ _ _ _ c.self.invariant c.remove_run.ensures.full c.remove_run.ensures.later
