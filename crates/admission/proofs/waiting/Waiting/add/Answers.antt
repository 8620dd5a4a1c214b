use Rattle.std.proofs.Common.{refl, sym, ◌∙◌, ap, subst}
use Rattle.std.specs.List.{find}
use Rattle.kinds.specs.Queue.{number_of, has_number}
use Rattle.ordered.proofs.Listed.{listed_back, listed_put}
use Rattle.ordered.proofs.Sorted.{pair_total}
use Rattle.ready_queue.specs.Parking.{Parking}
use Rattle.ready_queue.proofs.RunLemmas.{no_rank, same_insert}
use Rattle.admission.specs.Indexes.{place_of}
use Rattle.admission.proofs.Gate.{HaveStarts, starts_put}
use Rattle.admission.proofs.waiting.Waiting.add.Goals as goal

pub invariant_of-self-in-Ok : goal.invariant_of-self-in-Ok
invariant_of-self-in-Ok c = record {
  listed = listed_put pair_total place_of number_of no_rank c.args.item c.part_of.result c.args.item.number _ _ _ _ c.self.invariant.listed c.part_of.ensures refl
      (ap (λ (q : Parking). find (has_number c.args.item.number) q.items) c.self.view_is ∙ c.requires.fresh) (c.in-Ok.ensures.ok ∙ same_insert c.args.item _) c.in_ok-insert.ensures.updates.0;
  starts = subst HaveStarts (sym c.in-Ok.ensures.ok) (starts_put c.args.item _ c.requires.start c.self.invariant.starts);
}

pub invariant_of-self-in-Err : goal.invariant_of-self-in-Err
invariant_of-self-in-Err c = record {
  listed = listed_back pair_total place_of number_of c.part_of.result c.args.item.number _ _ _ _ _ c.self.invariant.listed
      (ap (λ (q : Parking). find (has_number c.args.item.number) q.items) c.self.view_is ∙ c.requires.fresh) c.in-Err.ensures.err c.in_ok-insert.ensures.updates.0 c.remove.ensures.updates.0;
  starts = subst HaveStarts (sym c.in-Err.ensures.err) c.self.invariant.starts;
}
