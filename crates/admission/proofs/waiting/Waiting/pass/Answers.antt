use Rattle.std.proofs.Common.{List, sym, subst}
use Rattle.kinds.specs.declared.store.Item.{Item}
use Rattle.admission.specs.Indexes.{IsWaiting}
use Rattle.admission.proofs.waiting.Waiting.pass.Goals as goal

pub invariant_of-self : goal.invariant_of-self
invariant_of-self c = subst (λ (is : List Item). IsWaiting is c.self.inside.places.keys) (sym c.pass.ensures.items) c.self.invariant

pub invariant_of-self-2 : goal.invariant_of-self-2
invariant_of-self-2 c = subst (λ (is : List Item). IsWaiting is c.self.inside.places.keys) (sym c.pass.ensures.items) c.self.invariant
