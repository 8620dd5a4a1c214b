use Rattle.std.proofs.lemmas.Cmp.{nat_cmp_total}
use Rattle.std.proofs.Common.{sym}
use Rattle.lists.specs.Entries.{is_due}
use Rattle.ordered.proofs.store.Ordered.take_due.Goals as goal
use Rattle.ordered.proofs.Listed.{listed_taken}

pub invariant_of-self-2 : goal.invariant_of-self-2
invariant_of-self-2 g c = listed_taken nat_cmp_total _ _ (is_due g.E.Ranked.rank_of c.args.limit) _ _ c.in_ok-entry.entry _ _ _ _ c.self.invariant (sym c.in_ok-entry.ensures.least) c.run.ensures c.number.ensures c.in_ok-entry.ensures.left c.remove.ensures.updates.0
