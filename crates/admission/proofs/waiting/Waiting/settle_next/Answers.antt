use Rattle.std.proofs.Common.{List, sym, subst}
use Rattle.kinds.specs.declared.store.Item.{Item}
use Rattle.admission.specs.Indexes.{IsWaiting}
use Rattle.admission.proofs.waiting.Waiting.settle_next.Goals as goal

pub invariant_of-self : goal.invariant_of-self
invariant_of-self g c = subst (λ (is : List Item). IsWaiting is c.self.inside.places.keys) (sym c.settle_next.ensures.items) c.self.invariant
