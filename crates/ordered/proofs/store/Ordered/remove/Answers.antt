use Rattle.std.proofs.lemmas.Cmp.{nat_cmp_total}
use Rattle.std.proofs.Common.{sym, ◌∙◌}
use Rattle.ordered.proofs.store.Ordered.remove.Goals as goal
use Rattle.lists.proofs.Keyed.{filter_none}
use Rattle.lists.specs.Entries.{has}
use Rattle.ordered.proofs.Listed.{listed_removed}

pub invariant_of-self : goal.invariant_of-self
invariant_of-self g c = rw (c.remove.ensures.left ∙ filter_none (has g.E.Ranked.number_of c.args.number) _ (sym c.in_err-entry.ensures.value)) c.self.invariant

pub invariant_of-self-2 : goal.invariant_of-self-2
invariant_of-self-2 g c = listed_removed nat_cmp_total _ _ _ c.args.number c.in_ok-entry.entry _ _ _ _ c.self.invariant (sym c.in_ok-entry.ensures.value) c.run.ensures c.remove.ensures.left c.remove-2.ensures.updates.0
