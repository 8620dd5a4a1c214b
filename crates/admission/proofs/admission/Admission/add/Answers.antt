use Rattle.admission.proofs.Whole.{whole_same}
use Rattle.admission.proofs.admission.Admission.add.Goals as goal

pub invariant_of-self : goal.invariant_of-self
invariant_of-self c = whole_same _ _ _ _ _ _ c.self.invariant c.add.ensures.full c.add.ensures.later

pub invariant_of-self-2 : goal.invariant_of-self-2
invariant_of-self-2 c = whole_same _ _ _ _ _ _ c.self.invariant c.add.ensures.full c.add.ensures.later
