use Rattle.std.specs.Ordering.{nat_cmp}
use Rattle.ready_queue.proofs.ParkLemmas.{gains_new, moments_tied, moment_itself}
use Rattle.ready_queue.proofs.lot.start_till.Goals as goal

pub returns-clause-ok : goal.returns-clause-ok
returns-clause-ok c =
    gains_new nat_cmp moments_tied moment_itself c.args.moment _ _ c.args.group c.in_ok-groups.groups c.requires c.in_ok-groups.ensures c.in_ok-insert.ensures.updates.0
