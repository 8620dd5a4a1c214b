use Rattle.std.proofs.Common.{sym, subst}
use Rattle.throttle.specs.Places.{AreFound}
use Rattle.throttle.proofs.PlaceLemmas.{all_found}
use Rattle.throttle.proofs.starts.Starts.entries.Goals as goal

pub invariant_of-result : goal.invariant_of-result
invariant_of-result c = subst (AreFound c.self.inside.entries.entries) (sym c.iter.ensures.rest) (all_found _ _ _ c.self.invariant)
