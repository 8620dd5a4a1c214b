use Rattle.std.proofs.Common.{List, sym, subst}
use Rattle.std.specs.Ordering.{nat_cmp}
use Rattle.kinds.specs.Queue.{number_of}
use Rattle.kinds.specs.declared.store.Item.{Item}
use Rattle.ordered.specs.Indexes.{IsListed}
use Rattle.ready_queue.specs.Runs.{run_of}
use Rattle.ready_queue.proofs.listed.Listed.pass.Goals as goal

pub invariant_of-self : goal.invariant_of-self
invariant_of-self c = subst (λ (is : List Item). IsListed nat_cmp run_of number_of is c.self.inside.runs.keys) (sym c.pass.ensures.items) c.self.invariant

pub invariant_of-self-2 : goal.invariant_of-self-2
invariant_of-self-2 c = subst (λ (is : List Item). IsListed nat_cmp run_of number_of is c.self.inside.runs.keys) (sym c.pass.ensures.items) c.self.invariant
