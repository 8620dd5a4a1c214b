use Rattle.admission.proofs.Whole.{whole_shut}
use Rattle.admission.proofs.admission.Admission.next.Goals as goal

pub invariant_of-self : goal.invariant_of-self
invariant_of-self g c = whole_shut _ _ _ _ _ _ c.self.invariant c.settle_next.ensures.shut
