use Rattle.admission.proofs.Whole.{whole_arrived, whole_fewer}
use Rattle.admission.proofs.admission.Admission.arrive.Goals as goal

pub invariant_of-self : goal.invariant_of-self
invariant_of-self c = whole_fewer _ _ _ _ _ _ c.self.invariant c.pass.ensures.fewer

pub invariant_of-self-2 : goal.invariant_of-self-2
invariant_of-self-2 c = whole_arrived _ _ _ _ _ _ _ c.args.moment c.self.invariant c.in_ok-pass.ensures.fewer c.in_ok-pass.ensures.ok c.requires.near c.forget.ensures
