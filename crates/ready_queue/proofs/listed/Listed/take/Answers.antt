use Rattle.std.proofs.Common.{List, refl, sym, ◌∙◌, subst}
use Rattle.std.proofs.lemmas.Cmp.{nat_cmp_total}
use Rattle.std.specs.Ordering.{nat_cmp}
use Rattle.kinds.specs.Queue.{number_of, has_number}
use Rattle.kinds.specs.declared.store.Item.{Item}
use Rattle.lists.proofs.Keyed.{filter_none}
use Rattle.ordered.specs.Indexes.{IsListed}
use Rattle.ordered.proofs.Listed.{listed_removed}
use Rattle.ready_queue.specs.Runs.{run_of}
use Rattle.ready_queue.proofs.listed.Listed.take.Goals as goal

pub invariant_of-self : goal.invariant_of-self
invariant_of-self c =
    subst (λ (is : List Item). IsListed nat_cmp run_of number_of is c.self.inside.runs.keys) (sym (c.take.ensures.left ∙ filter_none (has_number c.args.number) _ (sym c.in_err-item.ensures.value))) c.self.invariant

pub invariant_of-self-2 : goal.invariant_of-self-2
invariant_of-self-2 c =
    listed_removed nat_cmp_total run_of number_of c.in_ok-item.item.run c.args.number c.in_ok-item.item _ _ _ _ c.self.invariant (sym c.in_ok-item.ensures.value) refl c.take.ensures.left c.remove.ensures.updates.0
