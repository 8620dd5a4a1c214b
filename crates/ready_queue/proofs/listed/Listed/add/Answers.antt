use Rattle.std.proofs.Common.{refl, ◌∙◌, ap}
use Rattle.std.proofs.lemmas.Cmp.{nat_cmp_total}
use Rattle.std.specs.List.{find}
use Rattle.kinds.specs.Queue.{number_of, has_number}
use Rattle.ordered.proofs.Listed.{listed_put, listed_back}
use Rattle.ready_queue.specs.Parking.{Listed}
use Rattle.ready_queue.specs.Runs.{run_of}
use Rattle.ready_queue.proofs.RunLemmas.{no_rank, same_insert}
use Rattle.ready_queue.proofs.listed.Listed.add.Goals as goal

pub invariant_of-self-in-Ok : goal.invariant_of-self-in-Ok
invariant_of-self-in-Ok c =
    listed_put nat_cmp_total run_of number_of no_rank c.args.item c.args.item.run c.args.item.number _ _ _ _ c.self.invariant refl refl
    (ap (λ (q : Listed). find (has_number c.args.item.number) q.items) c.self.view_is ∙ c.requires.fresh) (c.in-Ok.ensures.ok ∙ same_insert c.args.item _) c.in_ok-insert.ensures.updates.0

pub invariant_of-self-in-Err : goal.invariant_of-self-in-Err
invariant_of-self-in-Err c =
    listed_back nat_cmp_total run_of number_of c.args.item.run c.args.item.number _ _ _ _ _ c.self.invariant
    (ap (λ (q : Listed). find (has_number c.args.item.number) q.items) c.self.view_is ∙ c.requires.fresh) c.in-Err.ensures.err c.in_ok-insert.ensures.updates.0 c.remove.ensures.updates.0
