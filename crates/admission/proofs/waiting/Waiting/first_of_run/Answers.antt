use Rattle.std.proofs.Common.{◌≡◌, ℕ, false, true, subst}
use Rattle.std.specs.List.{list_any}
use Rattle.kinds.specs.Queue.{has_run, number_of}
use Rattle.ready_queue.specs.Parking.{Parking}
use Rattle.admission.specs.Indexes.{has_key, IsIn}
use Rattle.admission.proofs.Found.{at_run, is_in, none_at_run, none_weaker, some_weaker}
use Rattle.admission.proofs.waiting.Waiting.first_of_run.Goals as goal

pub returns-clause-some : goal.returns-clause-some
returns-clause-some c =
    some_weaker (λ n. (d : ℕ) × (has_key c.self.inside.places.keys (c.args.run, d) n ≡ true)) (λ n. IsIn (has_run c.args.run) n c.args.self.now.items) c.first_of_run.result
    (λ n h. subst (λ (q : Parking). IsIn (has_run c.args.run) n q.items) c.self.view_is
    (is_in (has_run c.args.run) n c.self.inside.queue.items c.self.invariant.listed.apart (at_run (λ i. i) number_of c.args.run h.0 n c.self.inside.queue.items _ c.self.invariant.listed h.1)))
    c.first_of_run.ensures.some

pub returns-clause-none : goal.returns-clause-none
returns-clause-none c =
    none_weaker ((d n : ℕ) → has_key c.self.inside.places.keys (c.args.run, d) n ≡ false) (list_any (has_run c.args.run) c.args.self.now.items ≡ false) c.first_of_run.result
    (λ h. subst (λ (q : Parking). list_any (has_run c.args.run) q.items ≡ false) c.self.view_is (none_at_run (λ i. i) number_of c.args.run c.self.inside.queue.items _ c.self.invariant.listed h))
    c.first_of_run.ensures.none
