use Rattle.cel_eval.proofs.QuotientLemmas.{quotient_is}
use Rattle.cel_eval.proofs.units.Units.over.Goals as goal

pub returns : goal.returns
returns c = rw (← c.self.view_is, ← c.other.view_is) (quotient_is c.self.inside.units c.other.inside.units c.self.invariant c.other.invariant)
